-- How a session ends: a Stop is answered by Stopped or NoAnswer, and then all is written and placed.
use Rattle.std.specs.Prelude.{◌≡◌, ℕ, Bool, true, false, List, ◌++◌, Result, Ok, Err}
use Rattle.modem_history.specs.Acts.{Act, after}
use Rattle.modem_history.specs.Calls.{is_lost}
use Rattle.modem_history.specs.Wholes.{IsPrefixOf, outcomes}
use Rattle.modem_history.specs.Sessions.{Beginning, SessionView, sents, octets_of_frames, caller_outcomes, at_place}
use Rattle.modem_queues.specs.Stops.{has_stopped}
use Rattle.modem_driver.specs.declared.machine.course.Course.{Course}
use Rattle.modem_driver.specs.declared.machine.course.Course.TheVariants as course
use Rattle.modem_driver.specs.declared.session.ending.Ended.{Ended}
use Rattle.modem_driver.specs.declared.session.ending.Ended.TheVariants as ended
use Rattle.modem_driver.specs.declared.session.error.SessionFault.{SessionFault}
use Rattle.modem_driver.specs.declared.session.error.SessionFault.TheVariants as fault

-- A session has ended: in some beginning of its history a Stop was answered by Stopped or NoAnswer, all
-- frames sent in that beginning are written, and each caller has all outcomes told in it. It stays so, whatever else
-- happens.
pub record HasEnded (b : Beginning) (v : SessionView) (past : List Act) : Type 0 where
  pub before : List Act
  pub since : List Act
  pub past_is : past ≡ after before since
  pub stopped : has_stopped before ≡ true
  pub written : IsPrefixOf (b.line.sent ++ octets_of_frames (sents before)) v.line.sent
  pub placed : (c : ℕ) → IsPrefixOf (at_place c b.desk.told ++ caller_outcomes c (outcomes before))
      (at_place c v.desk.told)

-- What an end says of the session: it has ended, or its line is lost. Want of memory is no end.
abbrev pub IsEnd : Beginning → SessionView → List Act → Result Ended SessionFault → Type 0
IsEnd b v past (Ok ended.Stopped) = HasEnded b v past
IsEnd b v past (Err fault.NoMemory) = ⊥
IsEnd b v past (Err fault.Line) = is_lost past ≡ true
IsEnd b v past (Err fault.Failed) = is_lost past ≡ true

-- how far a session has come: no Stop was answered by Stopped or NoAnswer; one was; or this end holds of it
abbrev pub HasCome : Beginning → SessionView → List Act → Course → Type 0
HasCome b v past course.GoesOn = has_stopped past ≡ false
HasCome b v past course.Stopped = has_stopped past ≡ true
HasCome b v past (course.Ended end) = IsEnd b v past end

-- an end that a poll gave stays
abbrev pub KeepsEnd : (old new : Course) → Type 0
KeepsEnd old new = (end : Result Ended SessionFault) → old ≡ course.Ended end → new ≡ course.Ended end

-- ## How it is noted

-- how far a session has come on the way to its end: an answered Stop takes it on
abbrev pub course_after : Course → (answered : Bool) → Course
course_after course.GoesOn true = course.Stopped
course_after c _ = c
