-- So many are made.
use Rattle.std.specs.Prelude.{◌≡◌, replicate}
use Rattle.modem_sim.specs.Boxes.{fresh_box}
use Rattle.modem_sim.proofs.sim_core.shut_channels.Given as goal

abbrev pub invariant-loop : goal.invariant-loop
invariant-loop l = l.channels.items ≡ replicate l.counter fresh_box
