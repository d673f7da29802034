use Rattle.std.specs.Prelude.{◌≡◌}
use Rattle.modem_bench.proofs.calling.submit_alone.Given as goal

abbrev pub invariant-loop : goal.invariant-loop
invariant-loop g l = record {
  stays : l.caller ≡ l.initial.caller;
  same : l.left ≡ l.fn.ask;
}
