use Rattle.std.specs.Prelude.{◌≡◌, ◌++◌, map}
use Rattle.std.specs.Vec.Iter.{into_iter_items}
use Rattle.modem_bench.specs.declared.calling.Worked.{Worked}
use Rattle.modem_bench.proofs.settling.parted.Given as goal

abbrev pub invariant-loop-worked : goal.invariant-loop-worked
invariant-loop-worked l = record {
  can_next : goal.iterator-loop-worked.can_next l.worked-iterator;
  is_finite : goal.iterator-loop-worked.is_finite l.worked-iterator;
  callers : l.callers.items ≡ map (λ (w : Worked). w.caller) l.yielded;
  outcomes : l.outcomes.items ≡ map (λ (w : Worked). w.outcomes) l.yielded;
  came : l.yielded ++ into_iter_items l.worked-iterator ≡ l.fn.back.items;
}
