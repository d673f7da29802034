use Rattle.std.specs.Prelude.{map}
use Rattle.std.proofs.Common.{rules}
use Rattle.mux_frame.specs.Frames.{kept_frame}
use Rattle.ctl_run.proofs.inputs.ReadFrames.{taken_more, nothing_left, read_all}
use Rattle.ctl_run.proofs.framing.read_frames.Goals as goal

pub loop-left-preserved : goal.loop-left-preserved
loop-left-preserved c =
    taken_more _ _ c.loop-left.left.now _ c.feed-count.result (map kept_frame c.loop-left.frames.items) _ c.loop-left.deframer c.feed-count.new.self _
    c.loop-left.invariant
    c.feed-count.ensures.n1
    c.feed-count.ensures.past
    (search rules)
    (search rules)
    (search rules)

pub returns-clause-ok : goal.returns-clause-ok
returns-clause-ok c =
    rw c.in_ok-rest.ensures.ok (rw c.new-rest.ensures.items (read_all _ _ c.loop-left.left.now _ c.loop-left.deframer c.loop-left.invariant (nothing_left _ (search rules))))
