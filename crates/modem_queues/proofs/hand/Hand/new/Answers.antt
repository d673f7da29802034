-- Nothing is noted of none.
use Rattle.std.proofs.Common.{arith}
use Rattle.modem_queues.proofs.lists.CommandPlaces.{kept_none}
use Rattle.modem_queues.proofs.hand.Hand.new.Goals as goal

pub invariant_of-result : goal.invariant_of-result
invariant_of-result c = let none = c.in_ok-requests.ensures.len in kept_none c.in_ok-requests.requests (omega (arith, none)) c.in_ok-requests.ensures.capacity c.in_ok-requests.ensures.items
