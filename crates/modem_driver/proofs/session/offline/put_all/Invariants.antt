-- What was put there, and then what is still to come, are all.
use Rattle.std.proofs.Common.{◌≡◌, ◌++◌, ◌+◌, length}
use Rattle.std.specs.Vec.Iter.{into_iter_items}
use Rattle.std.specs.VecDeque.{deque_capacity}
use Rattle.modem_driver.proofs.session.offline.put_all.Given as goal

abbrev pub invariant-loop-item : goal.invariant-loop-item
invariant-loop-item g l = record {
  can_next : (goal.iterator-loop-item g).can_next l.item-iterator;
  is_finite : (goal.iterator-loop-item g).is_finite l.item-iterator;
  items : l.queue.items ++ into_iter_items l.item-iterator ≡ l.fn.queue.items ++ l.fn.items.items;
  count : length l.queue.items + length (into_iter_items l.item-iterator) ≡ length l.fn.queue.items + length l.fn.items.items;
  room : deque_capacity l.queue ≡ deque_capacity l.fn.queue;
}
