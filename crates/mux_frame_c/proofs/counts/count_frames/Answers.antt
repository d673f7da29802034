use Rattle.std.specs.Prelude.{refl}
use Rattle.std.proofs.Common.{sym, rules}
use Rattle.mux_frame.specs.Frames.{frame_of}
use Rattle.mux_frame_c.proofs.FrameCounts.{counts_none, counts_more}
use Rattle.mux_frame_c.proofs.counts.count_frames.Goals as goal

pub loop-frame-init : goal.loop-frame-init
loop-frame-init c = counts_none _ _ (search rules) (search rules)

pub loop-frame-preserved : goal.loop-frame-preserved
loop-frame-preserved c =
    counts_more _ c.loop-frame.deframer _ _ _ c.loop-frame.counts _ (frame_of c.in-Some.frame)
    c.loop-frame.invariant
    c.peek.follows.holds-at-none
    (sym c.in-Some.ensures.frame)
    c.advance.ensures.n1
    c.advance.ensures.past
    refl
    refl
