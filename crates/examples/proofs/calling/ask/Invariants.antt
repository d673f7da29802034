-- The caller keeps its place.
use Rattle.std.specs.Prelude.{◌≡◌}
use Rattle.examples.proofs.calling.ask.Given as goal

abbrev pub invariant-loop : goal.invariant-loop
invariant-loop g l = l.caller.place ≡ l.initial.caller.place
