-- Nothing was read yet.
use Rattle.std.specs.Io.KnownBytes.{Consumes}
use Rattle.std.specs.Prelude.{[]}
use Rattle.ctl_sim.proofs.serving.read_some.Given as goal

abbrev pub invariant-loop : goal.invariant-loop
invariant-loop g l = Consumes (g.I.Read.remaining l.initial.input) (g.I.Read.remaining l.input) []
