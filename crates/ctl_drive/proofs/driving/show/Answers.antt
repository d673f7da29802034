-- Lines are printed, and then an outcome.
use Rattle.std.proofs.Common.{Bool, Option, is_some, length, subst}
use Rattle.ctl_drive.specs.Showing.{LooksForOutcome, LooksThrough}
use Rattle.ctl_drive.specs.declared.showing.Told.{Told}
use Rattle.ctl_drive.proofs.Lines.{goes_then}
use Rattle.ctl_drive.proofs.Looking.{know_none}
use Rattle.ctl_drive.proofs.driving.show.Goals as goal

pub returns-in-Some-Asked-clause-goes : goal.returns-in-Some-Asked-clause-goes
returns-in-Some-Asked-clause-goes g c = goes_then _ _ _ _ _ _ c.in_ok-lines.ensures.goes c.in_ok-control.ensures.goes

pub returns-in-Some-Line-clause-goes : goal.returns-in-Some-Line-clause-goes
returns-in-Some-Line-clause-goes g c = goes_then _ _ _ _ _ _ c.in_ok-lines.ensures.goes c.in_ok-control.ensures.goes

pub returns-in-None-clause-goes : goal.returns-in-None-clause-goes
returns-in-None-clause-goes g c = goes_then _ _ _ _ _ _ c.in_ok-lines.ensures.goes c.in_ok-control.ensures.goes

pub returns-in-None-clause-none : goal.returns-in-None-clause-none
returns-in-None-clause-none g c none =
    know_none _ _ _ (subst (λ (b : Bool). LooksThrough c.args.users.now c.show_lines.new.self (length c.args.users.now.listeners.items) b) none c.in_ok-lines.ensures.looks)
    (subst (λ (o : Option Told). LooksForOutcome c.show_lines.new.self c.show_outcome.new.self (is_some o)) c.in-None.is c.in_ok-control.ensures.looks)
