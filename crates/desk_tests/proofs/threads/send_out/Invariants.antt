use Rattle.std.proofs.Common.{◌≡◌, ◌++◌, map}
use Rattle.std.specs.Vec.Iter.{into_iter_items}
use Rattle.modem_desk.specs.Ends.{place_of}
use Rattle.desk_tests.proofs.threads.send_out.Given as goal

abbrev pub invariant-loop-caller : goal.invariant-loop-caller
invariant-loop-caller g l = record {
  can_next : (goal.iterator-loop-caller g).can_next l.caller-iterator;
  is_finite : (goal.iterator-loop-caller g).is_finite l.caller-iterator;
  out : map (λ h. h.promise.0.value.place) l.out.items ≡ map place_of l.yielded;
  came : l.yielded ++ into_iter_items l.caller-iterator ≡ l.fn.callers.items;
}
