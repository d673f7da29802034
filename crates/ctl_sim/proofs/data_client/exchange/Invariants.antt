-- The files are those of the same connections.
use Rattle.std.specs.Prelude.{◌≡◌}
use Rattle.ctl_sim.proofs.data_client.exchange.Given as goal

abbrev pub invariant-loop : goal.invariant-loop
invariant-loop g l = g.L.ModemLine.named l.line ≡ g.L.ModemLine.named l.initial.line
