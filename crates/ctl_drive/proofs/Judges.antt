-- What a poll gives, and how a drive ends by it.
use Rattle.std.specs.Prelude.{◌≡◌, Option, None, Some, Result, Ok, Err, IfOk, refl}
use Rattle.std.proofs.Common.{subst}
use Rattle.modem_driver.specs.declared.machine.course.Course.{Course}
use Rattle.modem_driver.specs.declared.session.ending.Ended.{Ended}
use Rattle.modem_driver.specs.declared.session.error.SessionFault.{SessionFault}
use Rattle.modem_driver.specs.declared.session.error.SessionFault.TheVariants as error
use Rattle.modem_driver.specs.declared.session.polling.Progress.{Progress}
use Rattle.modem_driver.specs.declared.session.polling.Progress.TheVariants as progress
use Rattle.ctl_drive.specs.Asking.{PlanView}
use Rattle.ctl_drive.specs.Ending.{FailedFor, HasEndedBy, KeepsGiven, SaysBy}
use Rattle.ctl_drive.specs.declared.driving.Went.{Went}
use Rattle.ctl_drive.specs.declared.driving.Went.TheVariants as went
use Rattle.ctl_drive.specs.declared.fault.DriveFault.{DriveFault}
use Rattle.ctl_drive.specs.declared.fault.DriveFault.TheVariants as fault

-- ## How a drive ends

-- what a poll says of the end of a round it says of the same end
pub judged : (said : Progress) (p : PlanView) (f end : Option DriveFault) → went.Ends f ≡ went.Ends end → SaysBy said p f → SaysBy said p end
judged said p f end e s = let same : f ≡ end = cc in subst (SaysBy said p) same s

-- what a poll says of the drive's end is how the session ended
pub ended_by : (said : Progress) (c : Course) (p : PlanView) (end : Option DriveFault) → KeepsGiven said c → SaysBy said p end → HasEndedBy c p end
ended_by said c p None k s = (subst (λ (q : Progress). KeepsGiven q c) s.0 k, s.1, s.2)
ended_by said c p (Some fault.HungUp) k s = (s.0, failed s.0 (subst (λ (q : Progress). KeepsGiven q c) s.1 k) s.2)
  where
    failed : (why : SessionFault) → KeepsGiven (progress.Ended (Err why)) c → (why ≡ error.NoMemory → ⊥) → FailedFor why c
    failed error.NoMemory h n = absurd (n refl)
    failed error.Line h n = h
    failed error.Failed h n = h
ended_by said c p (Some fault.NoMemory) k s = tt
ended_by said c p (Some fault.Input) k s = s
ended_by said c p (Some fault.Output) k s = tt
ended_by said c p (Some fault.NoThread) k s = tt
ended_by said c p (Some (fault.NoDevice kind)) k s = tt
ended_by said c p (Some fault.NotSetUp) k s = tt
ended_by said c p (Some fault.Refused) k s = tt
ended_by said c p (Some fault.NoAnswer) k s = tt
ended_by said c p (Some fault.NotOpened) k s = tt
ended_by said c p (Some fault.Closed) k s = tt
ended_by said c p (Some (fault.GaveUp cause)) k s = tt
ended_by said c p (Some (fault.NoCapture kind)) k s = tt
ended_by said c p (Some fault.Silent) k s = tt
ended_by said c p (Some fault.Capture) k s = tt
ended_by said c p (Some fault.Data) k s = tt
ended_by said c p (Some fault.Unwritten) k s = tt

-- what a round says of how it ends, by what its poll says
pub ended_if : (said : Progress) (c : Course) (p : PlanView) (r : Result Went DriveFault) → KeepsGiven said c
    → IfOk r (λ w. (end : Option DriveFault) → w ≡ went.Ends end → SaysBy said p end) → IfOk r (λ w. (end : Option DriveFault) → w ≡ went.Ends end → HasEndedBy c p end)
ended_if said c p (Ok w) keeps h = λ end e. ended_by said c p end keeps (h end e)
ended_if said c p (Err why) keeps h = tt
