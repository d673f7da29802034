-- What a poll of a session comes to.
use Rattle.std.specs.Prelude.{◌≡◌, ℕ, ◌+◌, ◌<◌, ◌≤◌, ◌==◌, ◌&&◌, not, Bool, true, false, List, length, Option, None, Some, Result, Ok, Err, if◌then◌else◌}
use Rattle.modem_history.specs.Acts.{Act}
use Rattle.modem_history.specs.Sessions.{Beginning, LineView, SessionView, Goes}
use Rattle.modem_history.specs.Turns.{TurnAnswer, says_moved}
use Rattle.modem_driver.specs.declared.machine.course.Course.{Course}
use Rattle.modem_driver.specs.declared.machine.course.Course.TheVariants as course
use Rattle.modem_driver.specs.declared.session.ending.Ended.{Ended}
use Rattle.modem_driver.specs.declared.session.ending.Ended.TheVariants.{Stopped}
use Rattle.modem_driver.specs.declared.session.error.SessionFault.{SessionFault}
use Rattle.modem_driver.specs.declared.session.error.SessionFault.TheVariants as fault
use Rattle.modem_driver.specs.declared.session.polling.Progress.{Progress}
use Rattle.modem_driver.specs.declared.session.polling.Progress.TheVariants as progress
use Rattle.modem_driver.specs.Endings.{IsEnd}
use Rattle.modem_driver.specs.SessionStates.{Machine, SessionState, FitsInside, FitsAll, TakesMore, session_view}
use Rattle.modem_driver.specs.SessionTurns.{TakesTurn, Faults, HasTurned, LeavesLost, fault_of, standing_of}

-- ## The end

-- a Stop of the session was answered
abbrev pub is_stopped : Course → Bool
is_stopped course.Stopped = true
is_stopped _ = false

-- a Stop was answered by Stopped or NoAnswer, the line isn't lost, no octets and no control frames wait for
-- it, and no outcome waits for its caller
abbrev pub has_ended : Machine → Bool
has_ended k =
    is_stopped k.course && (not k.core.lost
    && ((length k.unwritten == 0) && ((length k.core.station.queue == 0) && (length k.unplaced == 0))))

-- ## Its turns

-- a session went on by some acts, the same whatever it began with and whatever history it had
unfoldable pub SessionGoesOn : {X : Type 0} → (X → LineView) → (old new : SessionState X) → Type 0
SessionGoesOn look old new =
    Goes (session_view look old) (session_view look new) (λ b. FitsInside b look old)
    (λ b. FitsInside b look new)

-- One turn, with this answer, of a session that hadn't ended: whatever history the session had goes on by it. The line
-- had at most two calls more, an end that a poll gave stays, and the desk's end forgot no request, and took more only
-- of its callers.
pub record MakesTurn {X : Type 0} (look : X → LineView) (old new : SessionState X)
    (says : TurnAnswer) : Type 0 where
  pub going : has_ended old.machine ≡ false
  pub turn : TakesTurn look old new says
  pub turned : HasTurned (standing_of look old) (standing_of look new)
  pub takes : TakesMore old.driver new.driver

-- a turn that ends in this fault, of a session that hasn't ended; after one other than want of memory the
-- line is lost
pub record MakesFault {X : Type 0} (look : X → LineView) (old new : SessionState X)
    (why : SessionFault) : Type 0 where
  pub going : has_ended old.machine ≡ false
  pub fault : Faults look old new (fault_of why)
  pub turned : HasTurned (standing_of look old) (standing_of look new)
  pub takes : TakesMore old.driver new.driver
  pub lost : LeavesLost why new

-- turns that all answer Moved, each of a session that hasn't ended
pub data MovesOn {X : Type 0} (look : X → LineView) (old : SessionState X) : ℕ → SessionState X → Type 0 where
  moves_none : MovesOn look old 0 old
  moves_once : (n : ℕ) (mid new : SessionState X) → MovesOn look old n mid
      → MakesTurn look mid new TurnAnswer.Moved → MovesOn look old (n + 1) new

-- The turns of a poll: 64 that answer Moved, and then there may be more; or at most 64, where it has ended; or fewer,
-- and then one that answers otherwise or fails.
pub data RunsTurns {X : Type 0} (look : X → LineView)
    (old new : SessionState X) : (more : Result Bool SessionFault) → Type 0 where
  goes_on : MovesOn look old 64 new → RunsTurns look old new (Ok true)
  ends : (n : ℕ) → n ≤ 64 → MovesOn look old n new → has_ended new.machine ≡ true
      → RunsTurns look old new (Ok false)
  rests : (n : ℕ) (mid : SessionState X) (says : TurnAnswer) → n < 64 → MovesOn look old n mid
      → MakesTurn look mid new says → says_moved says ≡ false → RunsTurns look old new (Ok false)
  fails : (n : ℕ) (mid : SessionState X) (why : SessionFault) → n < 64 → MovesOn look old n mid
      → MakesFault look mid new why → RunsTurns look old new (Err why)

-- ## What it gives

-- the fault, or that it has ended; or else whether there may be more to do at once
abbrev pub given_by : Machine → Result Bool SessionFault → Progress
given_by k (Ok more) =
    if has_ended k then progress.Ended (Ok Stopped) else if more then progress.More else progress.Idle
given_by k (Err why) = progress.Ended (Err why)

-- the end that a poll's turns led to, if they led to one
abbrev pub end_in : Progress → Option (Result Ended SessionFault)
end_in (progress.Ended end) = Some end
end_in _ = None

-- the end that an earlier poll gave, if one did
abbrev pub end_given : Course → Option (Result Ended SessionFault)
end_given (course.Ended end) = Some end
end_given _ = None

-- what is given is kept as its end, but for want of memory
abbrev pub kept_end : Course → Result Ended SessionFault → Course
kept_end c (Err fault.NoMemory) = c
kept_end c end = course.Ended end

-- the session, which keeps this as its end, but for want of memory
abbrev pub with_end : {X : Type 0} → Result Ended SessionFault → SessionState X → SessionState X
with_end end s = record s { machine = record s.machine { course = kept_end s.machine.course end } }

abbrev pub with_given : {X : Type 0} → Option (Result Ended SessionFault) → SessionState X → SessionState X
with_given None s = s
with_given (Some end) s = with_end end s

-- a poll makes its turns, gives what they lead to, and keeps that
pub record PollsOn {X : Type 0} (look : X → LineView) (old new : SessionState X) (given : Progress) :
    Type 0 where
  pub mid : SessionState X
  pub ran : Result Bool SessionFault
  pub runs : RunsTurns look old mid ran
  pub given_is : given ≡ given_by mid.machine ran
  pub stays : new ≡ with_given (end_in given) mid

-- a poll after an end gives that end, and does nothing
abbrev pub PollsFrom : {X : Type 0} → (X → LineView) → Course → (old new : SessionState X) → Progress → Type 0
PollsFrom look (course.Ended end) old new given = (given ≡ progress.Ended end) × (new ≡ old)
PollsFrom look _ old new given = PollsOn look old new given

-- a poll: an end that an earlier one gave is given again; else it makes its turns
abbrev pub Polls : {X : Type 0} → (X → LineView) → (old new : SessionState X) → Progress → Type 0
Polls look old new given = PollsFrom look old.machine.course old new given

-- ## What an output says

-- the session has ended so in every history that it fits; of want of memory nothing is said
abbrev pub PollSays : Beginning → SessionView → List Act → Result Ended SessionFault → Type 0
PollSays b v past (Err fault.NoMemory) = Unit {0}
PollSays b v past end = IsEnd b v past end

-- in every history that the session fits, what the poll gave is its end
abbrev pub SaysEnd : {X : Type 0} → (X → LineView) → SessionState X → Result Ended SessionFault → Type 0
SaysEnd look s given =
    (b : Beginning) (past : List Act) → FitsAll b look s past → PollSays b (session_view look s) past given

-- polls that gave no end
pub data Waits {X : Type 0} (look : X → LineView) : (old new : SessionState X) → Type 0 where
  waits_none : (s : SessionState X) → Waits look s s
  waits_once : (old mid new : SessionState X) (given : Progress) → Polls look old mid given
      → end_in given ≡ None → Waits look mid new → Waits look old new

-- after polls that gave no end one gave this end, which holds of the session; by all of them it went on by some acts
pub record Gives {X : Type 0} (look : X → LineView) (s : SessionState X)
    (given : Result Ended SessionFault) : Type 0 where
  pub mid : SessionState X
  pub new : SessionState X
  pub waits : Waits look s mid
  pub polls : Polls look mid new (progress.Ended given)
  pub goes : SessionGoesOn look s new
  pub says : SaysEnd look new given
