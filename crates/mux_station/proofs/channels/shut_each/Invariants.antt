-- So many are shut.
use Rattle.std.specs.Prelude.{◌≡◌, take, length, replicate}
use Rattle.mux_station.specs.Stations.{shut_channel}
use Rattle.mux_station.proofs.channels.shut_each.Given as goal

abbrev pub invariant-loop-channel : goal.invariant-loop-channel
invariant-loop-channel l = (take l.channel-index l.channel-items ≡ replicate l.channel-index shut_channel) × (length l.channel-items ≡ length l.fn.channels.items)
