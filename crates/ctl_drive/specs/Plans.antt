-- What contracts see of what is to be asked.
use Rattle.std.specs.Prelude.{Bool, true, false}
use Rattle.modem_desk.specs.declared.request.Answer.{Answer}
use Rattle.modem_desk.specs.declared.request.Answer.TheVariants.{NoAnswer}
use Rattle.ctl_drive.specs.Asking.{PlanView}
use Rattle.ctl_drive.specs.declared.users.Control.{Control}
use Rattle.ctl_drive.specs.declared.users.Control.TheVariants as control
use Rattle.ctl_drive.specs.declared.plan.Phase.{Phase}
use Rattle.ctl_drive.specs.declared.plan.Phase.TheVariants as phase

abbrev pub is_stopping : Phase → Bool
is_stopping phase.Stopping = true
is_stopping _ = false

-- the plan after a Stop was asked, or something else
abbrev pub after_asking : Control → PlanView → PlanView
after_asking control.Stop p = record p { stopping = true }
after_asking (control.Open d) p = p
after_asking (control.Close d) p = p

-- it is the closing of a connection, and the modem didn't answer it
abbrev pub is_unclosed : Control → Answer → Bool
is_unclosed (control.Close d) NoAnswer = true
is_unclosed _ _ = false
