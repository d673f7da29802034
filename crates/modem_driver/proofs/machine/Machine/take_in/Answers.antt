-- The octets behind those taken came.
use Rattle.std.proofs.Common.{◌≡◌, ◌≤◌, ◌-◌, ℕ, List, length, take, drop, subst, arith}
use Rattle.std.proofs.lemmas.List.{length-drop, take_all}
use Rattle.modem_driver.specs.EndpointSteps.{FeedsFrom}
use Rattle.modem_driver.proofs.endpoints.TakenOctets.{takes_handled, takes_more}
use Rattle.modem_driver.proofs.machine.Machine.take_in.Goals as goal

-- what stands behind the octets taken, as a slice to the end
rest_is : (octets : List ℕ) (taken : ℕ) → take (length octets - taken) (drop taken octets) ≡ drop taken octets
rest_is octets taken = let long = length-drop taken octets in take_all (length octets - taken) (drop taken octets) (omega (arith, long))

pub loop-is_left-preserved : goal.loop-is_left-preserved
loop-is_left-preserved c =
    let octets = c.args.octets.now in
    let taken = c.loop-is_left.taken in
    let count = c.feed_from-taken.result in
    let here = c.handle_any.new.self in
    let fed = c.feed_from-taken.new.self in
    let takes = takes_handled c.args.self.now c.loop-is_left.self here (take taken octets) c.loop-is_left.invariant.takes c.handle_any.ensures.handles in
    let feeds = subst (λ (xs : List ℕ). FeedsFrom here fed (take count xs)) (rest_is octets taken) c.feed_from-taken.ensures.feeds in
    let few = subst (λ (xs : List ℕ). count ≤ length xs) (rest_is octets taken) c.feed_from-taken.ensures.few in
    let rest = length-drop taken octets in
    let before = c.loop-is_left.invariant.few in
    record {
      takes = takes_more c.args.self.now here fed octets taken count takes feeds;
      few = omega (arith, few, rest, before);
      unfed = c.feed_from-taken.ensures.unfed;
    }
