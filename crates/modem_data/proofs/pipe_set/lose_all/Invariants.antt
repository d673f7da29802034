-- Those so far have seen it.
use Rattle.std.proofs.Common.{◌≡◌, ◌++◌, map, take, drop}
use Rattle.modem_data.specs.Pipes.{lost_pipe}
use Rattle.modem_data.proofs.pipe_set.lose_all.Given as goal

abbrev pub invariant-loop-pipe : goal.invariant-loop-pipe
invariant-loop-pipe l =
    l.pipe-items ≡ map lost_pipe (take l.pipe-index l.fn.pipes.items) ++ drop l.pipe-index l.fn.pipes.items
