use Rattle.std.proofs.Common.{◌≡◌, ◌+◌, ◌≤◌, ◌++◌, [], length, map, vec_capacity}
use Rattle.std.specs.Prelude.{All, vec_items}
use Rattle.std.specs.Vec.Iter.{into_iter_items}
use Rattle.rtrb.specs.Ring.{sent}
use Rattle.ring_id.specs.Rings.{ring_of_producer}
use Rattle.modem_desk.specs.Settling.{HeardBy}
use Rattle.modem_desk.proofs.settling.gather_lines.Given as goal

abbrev pub invariant-loop-listener : goal.invariant-loop-listener
invariant-loop-listener l = record {
  can_next : goal.iterator-loop-listener.can_next l.listener-iterator;
  is_finite : goal.iterator-loop-listener.is_finite l.listener-iterator;
  rings : map ring_of_producer l.lines.items ≡ map ring_of_producer l.initial.lines.items;
  said : map sent l.lines.items ≡ map sent l.initial.lines.items;
  each : All (λ v. (v.items ≡ []) × (256 ≤ vec_capacity v)) l.empty.items;
  count : length l.empty.items + length l.yielded ≡ length l.fn.listeners.items;
  came : l.yielded ++ into_iter_items l.listener-iterator ≡ l.fn.listeners.items;
  room : length l.fn.listeners.items ≤ vec_capacity l.filled;
  long : length l.filled.items ≡ length l.yielded;
  heard : HeardBy (map sent l.initial.lines.items) l.yielded (map vec_items l.filled.items);
}

abbrev pub ghost-next_room : goal.ghost-next_room
ghost-next_room a = 256
