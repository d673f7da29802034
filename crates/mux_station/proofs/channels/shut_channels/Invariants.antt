-- So many are made.
use Rattle.std.specs.Prelude.{◌≡◌, replicate}
use Rattle.mux_station.specs.Stations.{shut_channel}
use Rattle.mux_station.proofs.channels.shut_channels.Given as goal

abbrev pub invariant-loop : goal.invariant-loop
invariant-loop l = l.channels.items ≡ replicate l.counter shut_channel
