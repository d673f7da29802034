-- The passes so far.
use Rattle.std.specs.Prelude.{◌≡◌}
use Rattle.ctl_drive.specs.Ending.{TurnsSome}
use Rattle.ctl_drive.specs.Showing.{GoOn}
use Rattle.ctl_drive.proofs.ending.turn_away.Given as goal

pub record Passed (A B C D : Type 0) : Type 0 where
  pub turns : A
  pub goes : B
  pub same : C
  pub submits_none : D

abbrev pub invariant-loop : goal.invariant-loop
invariant-loop g l =
    Passed (TurnsSome l.initial.offline l.offline l.initial.driver l.driver)
    (GoOn (g.W.Write.contents l.initial.output) (g.W.Write.contents l.output) l.initial.users l.users)
    (l.plan ≡ l.initial.plan)
    (l.users.caller.submitted ≡ l.initial.users.caller.submitted)
