use Rattle.std.specs.Prelude.{refl, map, [], ◌∷◌}
use Rattle.std.proofs.Common.{sym}
use Rattle.std.proofs.lemmas.List.{map-append}
use Rattle.mux_frame.specs.Frames.{kept_frame, frame_of}
use Rattle.ctl_run.proofs.inputs.ReadFrames.{hands_more}
use Rattle.ctl_run.proofs.framing.take_frames.Goals as goal

pub loop-frame-preserved : goal.loop-frame-preserved
loop-frame-preserved c =
    hands_more _ c.loop-frame.deframer _ _ _ (map kept_frame c.loop-frame.frames.items) _ (frame_of c.in-Some.frame)
    c.loop-frame.invariant
    c.peek.follows.holds-at-none
    (sym c.in-Some.ensures.frame)
    c.advance.ensures.n1
    c.advance.ensures.past
    (rw (c.in_ok-push.ensures.items, map-append kept_frame c.loop-frame.frames.items (c.in_ok-to_buf.field-0 ∷ []), c.in_ok-to_buf.ensures) refl)
