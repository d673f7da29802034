use Rattle.std.specs.Prelude.{◌≡◌, ◌++◌, length}
use Rattle.std.specs.Vec.Iter.{into_iter_items}
use Rattle.modem_bench.specs.Running.{AreOut}
use Rattle.modem_bench.proofs.crew.send_out.Given as goal

abbrev pub invariant-loop-caller : goal.invariant-loop-caller
invariant-loop-caller g l = record {
  can_next : (goal.iterator-loop-caller g).can_next l.caller-iterator;
  is_finite : (goal.iterator-loop-caller g).is_finite l.caller-iterator;
  out : AreOut l.submissions 0 l.yielded l.out.items;
  counted : l.number ≡ length l.yielded;
  came : l.yielded ++ into_iter_items l.caller-iterator ≡ l.fn.callers.items;
}
