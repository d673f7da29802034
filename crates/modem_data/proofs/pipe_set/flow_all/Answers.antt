-- One more has seen it.
use Rattle.std.proofs.Common.{arith, ap, ◌∙◌, get_or, slice_set}
use Rattle.std.proofs.lemmas.List.Edits.{map_over_more}
use Rattle.mux_frame.specs.Frames.{frame_of}
use Rattle.modem_data.specs.Pipes.{Pipe, flowed_pipe}
use Rattle.modem_data.proofs.pipe_set.flow_all.Goals as goal

pub loop-pipe-preserved : goal.loop-pipe-preserved
loop-pipe-preserved c =
    let sees = flowed_pipe (frame_of c.args.frame) in
    let item = get_or c.loop-pipe.pipe-items c.loop-pipe.pipe-index c.pipe-item.result in
    ap (slice_set c.loop-pipe.pipe-items c.loop-pipe.pipe-index) c.flowed.ensures
    ∙ map_over_more sees c.args.pipes.now.items c.loop-pipe.pipe-items c.loop-pipe.pipe-index item
    (omega (arith, c.loop-pipe-test.true)) c.loop-pipe.invariant
    (ap (λ (b : Pipe). get_or c.loop-pipe.pipe-items c.loop-pipe.pipe-index b) c.pipe-item.is)
