-- The octets copied so far went out.
use Rattle.std.proofs.Common.{length, take, drop, ◌-◌, ◌≡◌, ◌≤◌}
use Rattle.modem_driver.specs.EndpointSteps.{GivesOut}
use Rattle.modem_driver.proofs.machine.Machine.give_out.Given as goal

abbrev pub invariant-loop-count : goal.invariant-loop-count
invariant-loop-count l = record {
  gives : GivesOut l.initial.self l.self (take l.count l.room);
  behind : drop l.count l.room ≡ drop l.count l.initial.room;
  few : l.count ≤ length l.initial.room;
  unfed : l.self.unfed ≡ l.initial.self.unfed;
  same : length l.room ≡ length l.initial.room;
}

abbrev pub decreases-loop-count : goal.decreases-loop-count
decreases-loop-count l = length l.initial.room - l.count
