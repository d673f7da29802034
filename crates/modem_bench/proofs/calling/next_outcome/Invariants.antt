use Rattle.std.specs.Prelude.{◌≡◌}
use Rattle.modem_bench.proofs.calling.next_outcome.Given as goal

abbrev pub invariant-loop : goal.invariant-loop
invariant-loop g l = record {
  place : l.caller.place ≡ l.initial.caller.place;
  submitted : l.caller.submitted ≡ l.initial.caller.submitted;
  got : l.caller.got ≡ l.initial.caller.got;
}
