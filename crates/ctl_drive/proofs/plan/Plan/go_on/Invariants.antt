-- What was asked so far, one thing in each step.
use Rattle.std.specs.Prelude.{ℕ, ◌+◌, ◌≤◌, List, Option}
use Rattle.ctl_drive.specs.Asking.{AsksOn}
use Rattle.ctl_drive.specs.Showing.{GoOn}
use Rattle.ctl_drive.specs.Turns.{steps_of}
use Rattle.ctl_drive.proofs.plan.Plan.go_on.Given as goal

pub record Asked (A B C : Type 0) : Type 0 where
  pub goes : A
  pub asks : B
  pub moved : C

abbrev pub invariant-loop-step : goal.invariant-loop-step
invariant-loop-step g l =
    Asked ((out : Option (List ℕ)) → GoOn out out l.initial.users l.users)
    (AsksOn l.initial.self l.self l.initial.users.caller.submitted l.users.caller.submitted (g.E.Write.contents l.initial.faults) (g.E.Write.contents l.faults))
    (steps_of l.initial.self l.initial.users + l.step ≤ steps_of l.self l.users)
