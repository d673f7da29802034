use Rattle.std.proofs.Common.{◌≡◌, ◌+◌, drop, arith}
use Rattle.mux_frame.specs.Deframing.{decision_on}
use Rattle.mux_frame.specs.Judged.{header_seen}
use Rattle.mux_frame.specs.Judging.{unfinished, refused, fits}
use Rattle.mux_frame.proofs.deframers.DeframerOctets.{octets-drop, passed_on, refused_some}
use Rattle.mux_frame.proofs.deframers.SearchedOctets.{searched_fits, searched_unfinished}
use Rattle.mux_frame.proofs.settling.searched.Goals as goal

pub returns-in-Fits : goal.returns-in-Fits
returns-in-Fits c =
    let e : fits (header_seen c.in-Fits.header) ≡ decision_on c.args.n1 (drop c.loop-header.start c.args.octets.now) = rw c.split_at.ensures.back at c.in-Fits.ensures in
    searched_fits c.args.n1 c.loop-header.start c.check_place.result c.args.octets.now (header_seen c.in-Fits.header) c.requires c.loop-header.invariant e c.check_place.ensures.value

pub returns-in-Unfinished : goal.returns-in-Unfinished
returns-in-Unfinished c =
    let e : unfinished ≡ decision_on c.args.n1 (drop c.loop-header.start c.args.octets.now) = rw c.split_at.ensures.back at c.in-Unfinished.ensures in
    searched_unfinished c.args.n1 c.loop-header.start c.args.octets.now c.loop-header.invariant e

pub loop-header-smaller : goal.loop-header-smaller
loop-header-smaller c =
    let e : refused ≡ decision_on c.args.n1 (drop c.loop-header.start c.args.octets.now) = rw c.split_at.ensures.back at c.in-Refused.ensures in
    let k = refused_some c.args.n1 c.loop-header.start c.args.octets.now e in
    omega (arith, k)

pub loop-header-preserved : goal.loop-header-preserved
loop-header-preserved c =
    let e : refused ≡ decision_on c.args.n1 (drop c.loop-header.start c.args.octets.now) = rw c.split_at.ensures.back at c.in-Refused.ensures in
    let o = octets-drop (c.loop-header.start + 1) c.args.octets.now c.requires in
    passed_on c.args.n1 c.loop-header.start c.begin_in.result c.args.octets.now c.requires c.loop-header.invariant e
    (rw c.split_at-in-Refused.ensures.back at c.begin_in.ensures.within)
    ((rw c.split_at-in-Refused.ensures.back at c.begin_in.ensures.reads) o c.args.n1)
