-- What was put there, and then what is still to come, are all.
use Rattle.std.proofs.Common.{◌≡◌, ◌++◌, ◌+◌, length, map}
use Rattle.std.specs.Vec.Iter.{into_iter_items}
use Rattle.std.specs.VecDeque.{deque_capacity}
use Rattle.modem_driver.specs.TurningAway.{line_lost}
use Rattle.modem_driver.proofs.session.offline.lose_all.Given as goal

abbrev pub invariant-loop-request : goal.invariant-loop-request
invariant-loop-request l = record {
  can_next : goal.iterator-loop-request.can_next l.request-iterator;
  is_finite : goal.iterator-loop-request.is_finite l.request-iterator;
  items : l.queue.items ++ map line_lost (into_iter_items l.request-iterator) ≡ l.fn.queue.items ++ map line_lost l.fn.requests.items;
  count : length l.queue.items + length (into_iter_items l.request-iterator) ≡ length l.fn.queue.items + length l.fn.requests.items;
  room : deque_capacity l.queue ≡ deque_capacity l.fn.queue;
}
