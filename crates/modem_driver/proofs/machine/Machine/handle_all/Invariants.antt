-- The frames so far were handled.
use Rattle.std.proofs.Common.{◌≡◌, length}
use Rattle.modem_driver.specs.EndpointSteps.{HandlesFrames}
use Rattle.modem_driver.proofs.machine.Machine.handle_all.Given as goal

abbrev pub invariant-loop : goal.invariant-loop
invariant-loop l = record {
  handles : HandlesFrames l.initial.self l.self;
  unfed : l.self.unfed ≡ l.initial.self.unfed;
  lost : l.self.core.lost ≡ l.initial.self.core.lost;
}

abbrev pub decreases-loop : goal.decreases-loop
decreases-loop l = length l.self.deframer.undecided
