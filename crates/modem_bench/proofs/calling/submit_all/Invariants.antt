use Rattle.std.specs.Prelude.{◌≡◌, ◌++◌}
use Rattle.std.specs.Vec.Iter.{into_iter_items}
use Rattle.modem_bench.specs.Calling.{Asks}
use Rattle.modem_bench.proofs.calling.submit_all.Given as goal

abbrev pub invariant-loop-ask : goal.invariant-loop-ask
invariant-loop-ask g l = record {
  can_next : (goal.iterator-loop-ask g).can_next l.ask-iterator;
  is_finite : (goal.iterator-loop-ask g).is_finite l.ask-iterator;
  asks : Asks l.initial.caller l.caller l.yielded l.numbers.items l.initial.outcomes.items l.outcomes.items;
  came : l.yielded ++ into_iter_items l.ask-iterator ≡ l.fn.asks.items;
}
