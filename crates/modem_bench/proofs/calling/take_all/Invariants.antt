use Rattle.std.specs.Prelude.{◌≡◌}
use Rattle.modem_bench.specs.Calling.{PutsBehind}
use Rattle.modem_bench.proofs.calling.take_all.Given as goal

abbrev pub invariant-loop : goal.invariant-loop
invariant-loop g l = record {
  place : l.caller.place ≡ l.initial.caller.place;
  submitted : l.caller.submitted ≡ l.initial.caller.submitted;
  puts : PutsBehind l.initial.caller l.caller l.initial.outcomes.items l.outcomes.items;
}
