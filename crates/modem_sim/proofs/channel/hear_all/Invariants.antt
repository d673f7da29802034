-- Those so far have heard it.
use Rattle.std.proofs.Common.{◌≡◌, ◌++◌, map, take, drop}
use Rattle.modem_sim.specs.Boxes.{box_heard}
use Rattle.modem_sim.proofs.channel.hear_all.Given as goal

abbrev pub invariant-loop-channel : goal.invariant-loop-channel
invariant-loop-channel l =
    l.channel-items
    ≡ map (box_heard l.fn.dlci.number l.fn.ended) (take l.channel-index l.fn.channels.items) ++ drop l.channel-index l.fn.channels.items
