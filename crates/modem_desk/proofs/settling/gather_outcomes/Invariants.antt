use Rattle.std.proofs.Common.{◌≡◌, ◌+◌, ◌≤◌, ◌++◌, [], length, map, vec_capacity}
use Rattle.std.specs.Prelude.{All, vec_items}
use Rattle.std.specs.Vec.Iter.{into_iter_items}
use Rattle.rtrb.specs.Ring.{sent}
use Rattle.crossbeam_queue.specs.Passes.{view, IsPassOf}
use Rattle.modem_desk.specs.Ends.{Each, IsNumbered}
use Rattle.ring_id.specs.Rings.{ring_of_producer}
use Rattle.modem_desk.specs.Rule.{driver}
use Rattle.modem_desk.specs.Settling.{known_of, HeldFor}
use Rattle.modem_desk.proofs.settling.gather_outcomes.Given as goal

abbrev pub invariant-loop-caller : goal.invariant-loop-caller
invariant-loop-caller l = record {
  can_next : goal.iterator-loop-caller.can_next l.caller-iterator;
  is_finite : goal.iterator-loop-caller.is_finite l.caller-iterator;
  of_queue : IsPassOf l.queue l.pass;
  knows : view l.pass ≡ driver (view l.initial.pass).given (view l.initial.pass).taken (map known_of l.yielded);
  rings : map ring_of_producer l.rings.items ≡ map ring_of_producer l.initial.rings.items;
  said : map sent l.rings.items ≡ map sent l.initial.rings.items;
  each : All (λ v. (v.items ≡ []) × (8 ≤ vec_capacity v)) l.empty.items;
  count : length l.empty.items + length l.yielded ≡ length l.fn.callers.items;
  came : l.yielded ++ into_iter_items l.caller-iterator ≡ l.fn.callers.items;
  room : length l.fn.callers.items ≤ vec_capacity l.filled;
  long : length l.filled.items ≡ length l.yielded;
  held : HeldFor (map sent l.initial.rings.items) l.yielded (map vec_items l.filled.items);
  numbered : Each (λ _ c. IsNumbered c.place.first c.submitted) l.yielded;
}

abbrev pub ghost-next_room : goal.ghost-next_room
ghost-next_room a = 8
