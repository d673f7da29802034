-- No frame is at hand, or it is handled.
use Rattle.std.proofs.Common.{◌≡◌, sym, ◌∙◌, subst, refl, false}
use Rattle.std.specs.Prelude.{Option, Some, None, is_some}
use Rattle.mux_frame.specs.Frames.{Frame}
use Rattle.modem_driver.specs.SessionStates.{Machine}
use Rattle.modem_driver.specs.GettingSteps.{MachineGets}
use Rattle.modem_driver.proofs.sessions.steps.FrameAtHand.{gets_none, none_at_hand}
use Rattle.modem_driver.proofs.sessions.steps.MachineParts.{machine_of}
use Rattle.modem_driver.proofs.machine.Machine.handle_one.Goals as goal

not_there : (o : Option Frame) → false ≡ is_some o → o ≡ None
not_there None e = refl
not_there (Some f) e = cc

pub returns-then-not-has_frame-clause-gets : goal.returns-then-not-has_frame-clause-gets
returns-then-not-has_frame-clause-gets c =
    let k = c.self.inside in
    let old : Machine = machine_of k in
    subst (λ (v : Machine). MachineGets v v false) c.self.view_is
    (gets_none old old.core old.deframer old.unplaced old.unannounced (none_at_hand old (not_there old.deframer.next (sym c.if-not-has_frame.true ∙ c.has_frame.ensures))) refl refl refl refl)
