-- The desk stays.
use Rattle.std.specs.Prelude.{◌≡◌}
use Rattle.examples.proofs.driving.drive.Given as goal

abbrev pub invariant-loop : goal.invariant-loop
invariant-loop g l = l.session.driver.desk ≡ l.initial.session.driver.desk
