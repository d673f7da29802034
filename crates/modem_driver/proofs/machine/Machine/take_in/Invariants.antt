-- The octets so far came.
use Rattle.std.proofs.Common.{length, take, ◌-◌, ◌≡◌, ◌≤◌, []}
use Rattle.modem_driver.specs.EndpointSteps.{TakesFrom}
use Rattle.modem_driver.proofs.machine.Machine.take_in.Given as goal

abbrev pub invariant-loop-is_left : goal.invariant-loop-is_left
invariant-loop-is_left l = record {
  takes : TakesFrom l.initial.self l.self (take l.taken l.octets);
  few : l.taken ≤ length l.octets;
  unfed : l.self.unfed ≡ [];
}

abbrev pub decreases-loop-is_left : goal.decreases-loop-is_left
decreases-loop-is_left l = length l.octets - l.taken
