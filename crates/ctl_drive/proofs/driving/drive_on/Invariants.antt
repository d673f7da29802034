-- It has gone on so far.
use Rattle.std.specs.Prelude.{◌≡◌}
use Rattle.std.specs.Duration.{as_nanos}
use Rattle.ctl_drive.specs.Asking.{AsksOn}
use Rattle.ctl_drive.specs.Driving.{DrivesOn}
use Rattle.ctl_drive.specs.Showing.{GoOn}
use Rattle.ctl_drive.proofs.driving.drive_on.Given as goal

pub record Gone (A B C D : Type 0) : Type 0 where
  pub drives : A
  pub goes : B
  pub asks : C
  pub timed : D

abbrev pub invariant-loop : goal.invariant-loop
invariant-loop g l =
    Gone
    (DrivesOn g.L.SerialLine.seen (as_nanos l.initial.ticks.period) l.initial.session l.initial.ticks.last l.session l.ticks.last)
    (GoOn (g.W.Write.contents l.initial.output) (g.W.Write.contents l.output) l.initial.users l.users)
    (AsksOn l.initial.plan l.plan l.initial.users.caller.submitted l.users.caller.submitted (g.E.Write.contents l.initial.faults) (g.E.Write.contents l.faults))
    (l.ticks.period ≡ l.initial.ticks.period)
