-- Those so far have seen it.
use Rattle.std.proofs.Common.{◌≡◌, ◌++◌, map, take, drop}
use Rattle.mux_frame.specs.Frames.{frame_of}
use Rattle.modem_data.specs.Pipes.{saw_pipe}
use Rattle.modem_data.proofs.pipe_set.see_all.Given as goal

abbrev pub invariant-loop-pipe : goal.invariant-loop-pipe
invariant-loop-pipe l =
    l.pipe-items ≡ map (saw_pipe (frame_of l.fn.frame)) (take l.pipe-index l.fn.pipes.items) ++ drop l.pipe-index l.fn.pipes.items
