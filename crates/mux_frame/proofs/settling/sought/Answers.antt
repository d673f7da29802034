use Rattle.std.proofs.Common.{◌+◌, subst}
use Rattle.mux_frame.specs.Judged.{StandsSo}
use Rattle.mux_frame.specs.Judging.{refused}
use Rattle.mux_frame.proofs.deframers.DeframerOctets.{octets-drop, passed_on, refused_some}
use Rattle.mux_frame.proofs.deframers.SearchedOctets.{second_passed, sought_whole, verdict_decides}
use Rattle.mux_frame.proofs.settling.sought.Goals as goal

pub returns-in-Whole : goal.returns-in-Whole
returns-in-Whole c =
    let s = c.in-Some.ensures in
    sought_whole c.args.n1 c.loop-begin.start c.in-Some.begin c.args.octets.now s.text s.is_second c.requires c.loop-begin.invariant s.candidate s.begin_is c.in-Whole.place (subst (StandsSo c.args.n1 s.text) c.in-Whole.is s.stands_so)

pub returns-in-Unfinished : goal.returns-in-Unfinished
returns-in-Unfinished c =
    let s = c.in-Some.ensures in
    second_passed c.args.n1 c.loop-begin.start c.in-Some.begin c.args.octets.now s.text s.is_second c.requires c.loop-begin.invariant s.candidate s.begin_is

pub split_at-requires : goal.split_at-requires
split_at-requires c =
    let s = c.in-Some.ensures in
    let d = verdict_decides c.args.n1 c.loop-begin.start c.in-Some.begin c.args.octets.now s.text s.is_second c.requires c.loop-begin.invariant s.candidate s.begin_is refused (subst (StandsSo c.args.n1 s.text) c.in-Refused.is s.stands_so) in
    refused_some c.args.n1 c.in-Some.begin c.args.octets.now d

pub loop-begin-preserved : goal.loop-begin-preserved
loop-begin-preserved c =
    let s = c.in-Some.ensures in
    let p = second_passed c.args.n1 c.loop-begin.start c.in-Some.begin c.args.octets.now s.text s.is_second c.requires c.loop-begin.invariant s.candidate s.begin_is in
    let d = verdict_decides c.args.n1 c.loop-begin.start c.in-Some.begin c.args.octets.now s.text s.is_second c.requires c.loop-begin.invariant s.candidate s.begin_is refused (subst (StandsSo c.args.n1 s.text) c.in-Refused.is s.stands_so) in
    let o = octets-drop (c.in-Some.begin + 1) c.args.octets.now c.requires in
    passed_on c.args.n1 c.in-Some.begin c.begin_in.result c.args.octets.now c.requires p d
    (rw c.split_at.ensures.back at c.begin_in.ensures.within)
    ((rw c.split_at.ensures.back at c.begin_in.ensures.reads) o c.args.n1)
