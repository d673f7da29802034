use Rattle.std.proofs.Common.{◌≡◌, ◌++◌, ◌∷◌, [], map, sym, ◌∙◌, arith, rules, length-drop}
use Rattle.mux_frame.specs.Frames.{kept_frame}
use Rattle.mux_frame.specs.Judging.{frame_at}
use Rattle.mux_frame.specs.Judged.{header_seen}
use Rattle.mux_frame.specs.Spelling.{flag}
use Rattle.mux_frame.proofs.readings.ComputedReadings.{so_far_none, so_far_refused, so_far_whole, so_far_end, so_far_cut, after_shorter, kept_more}
use Rattle.mux_frame.proofs.laws.read_plain.Goals as goal

pub loop-text-init : goal.loop-text-init
loop-text-init c = rw c.new-frames.ensures.items (so_far_none c.args.n1 c.args.octets.now)

pub returns-in-Unfinished-clause-ok : goal.returns-in-Unfinished-clause-ok
returns-in-Unfinished-clause-ok c =
    let e : c.extend_from_slice.new.self.items ≡ flag ∷ c.in-Some.text.now = search rules in
    rw e (so_far_cut c.args.n1 c.args.octets.now c.loop-text.left.now c.in-Some.text.now _ c.loop-text.invariant (sym c.in-Some.ensures) c.in-Unfinished.ensures.means)

pub loop-text-smaller-in-Refused : goal.loop-text-smaller-in-Refused
loop-text-smaller-in-Refused c = after_shorter c.loop-text.left.now c.in-Some.text.now (sym c.in-Some.ensures)

pub loop-text-preserved-in-Refused : goal.loop-text-preserved-in-Refused
loop-text-preserved-in-Refused c = so_far_refused c.args.n1 c.args.octets.now c.loop-text.left.now c.in-Some.text.now _ c.loop-text.invariant (sym c.in-Some.ensures) c.in-Refused.ensures.means

pub loop-text-smaller : goal.loop-text-smaller
loop-text-smaller c =
    let l = after_shorter c.loop-text.left.now c.in-Some.text.now (sym c.in-Some.ensures) in
    rw c.later-left.ensures (simp length-drop (omega (arith, l)))

pub loop-text-preserved : goal.loop-text-preserved
loop-text-preserved c =
    let h = header_seen c.in-Fits.header in
    let m : map kept_frame c.push-in-Fits.new.self.items ≡ map kept_frame c.loop-text.frames.items ++ frame_at h c.in-Some.text.now ∷ [] =
    rw c.in_ok-push-in-Fits.ensures.items (kept_more c.loop-text.frames.items c.in_ok-to_buf-in-Fits.field-0 (frame_at h c.in-Some.text.now) (c.in_ok-to_buf-in-Fits.ensures ∙ c.view.ensures)) in
    rw (m, c.later-left.ensures) (so_far_whole c.args.n1 c.args.octets.now c.loop-text.left.now c.in-Some.text.now _ h c.loop-text.invariant (sym c.in-Some.ensures) c.in-Fits.ensures.means)

pub returns-clause-ok : goal.returns-clause-ok
returns-clause-ok c =
    rw c.new.ensures.items (so_far_end c.args.n1 c.args.octets.now c.loop-text.left.now _ c.loop-text.invariant (sym c.in_default.ensures))
