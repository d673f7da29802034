-- What was said so far, and the files are those of the same connections.
use Rattle.std.specs.Prelude.{◌≡◌}
use Rattle.ctl_sim.specs.DataEnds.{SaysUnsent}
use Rattle.ctl_sim.proofs.data_serving.serve_rounds.Given as goal

abbrev pub invariant-loop : goal.invariant-loop
invariant-loop g l = record {
  named : g.L.ModemLine.named l.client.line ≡ g.L.ModemLine.named l.initial.client.line;
  says : SaysUnsent (g.E.Write.contents l.initial.faults) (g.E.Write.contents l.faults);
}
