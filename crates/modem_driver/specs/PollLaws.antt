-- What the turns of a poll say of each history.
use Rattle.std.specs.Prelude.{◌≡◌, ◌≢◌, ℕ, ◌+◌, ◌-◌, ◌^◌, ◌<◌, ◌≤◌, Bool, true, false, List, [], None, Result, Ok, Err}
use Rattle.modem_history.specs.Acts.{Act, after}
use Rattle.modem_history.specs.Sessions.{Beginning, LineView}
use Rattle.modem_history.specs.Turns.{Exchange, TurnAnswer, IsTurn, IsFault, says_moved}
use Rattle.modem_history.specs.EveryTurn.{OffersWhatWaits, TakesSteps}
use Rattle.modem_driver.specs.declared.session.ending.Ended.{Ended}
use Rattle.modem_driver.specs.declared.session.ending.Ended.TheVariants.{Stopped}
use Rattle.modem_driver.specs.declared.session.error.SessionFault.{SessionFault}
use Rattle.modem_driver.specs.declared.session.error.SessionFault.TheVariants as fault
use Rattle.modem_driver.specs.declared.session.polling.Progress.TheVariants as progress
use Rattle.modem_driver.specs.SessionStates.{SessionState, FitsAll, has_lost_line, session_view}
use Rattle.modem_driver.specs.SessionTurns.{fault_of}
use Rattle.modem_driver.specs.Polls.{Gives, PollsOn, RunsTurns, end_given, has_ended}

-- ## Over a history

-- so many turns that answer Moved: each session on the way fits the history so far, and each turn is a turn of that
-- history, with all its steps
pub data MovesThrough {X : Type 0} (look : X → LineView) (b : Beginning) (old : SessionState X)
    (past : List Act) : ℕ → SessionState X → List Act → Type 0 where
  through_none : FitsAll b look old past → MovesThrough look b old past 0 old past
  through_once : (n : ℕ) (mid new : SessionState X) (before acts : List Act) (t : Exchange)
      → MovesThrough look b old past n mid before → has_ended mid.machine ≡ false
      → FitsAll b look new (after before acts)
      → IsTurn b (session_view look mid) (session_view look new) t before acts TurnAnswer.Moved
      → TakesSteps b (session_view look mid) (session_view look new) t before acts
      → MovesThrough look b old past (n + 1) new (after before acts)

-- all turns of a poll: each session on the way fits the history so far, and each turn is a turn of that history
pub data RunsThrough {X : Type 0} (look : X → LineView) (b : Beginning) (old : SessionState X)
    (past : List Act) (new : SessionState X) : List Act → Result Bool SessionFault → Type 0 where
  all_through : (now : List Act) → MovesThrough look b old past 64 new now
      → RunsThrough look b old past new now (Ok true)
  ended_through : (n : ℕ) (now : List Act) → n ≤ 64 → MovesThrough look b old past n new now
      → has_ended new.machine ≡ true → RunsThrough look b old past new now (Ok false)
  rests_through : (n : ℕ) (mid : SessionState X) (before acts : List Act) (t : Exchange) (says : TurnAnswer)
      → n < 64 → MovesThrough look b old past n mid before → has_ended mid.machine ≡ false
      → FitsAll b look new (after before acts)
      → IsTurn b (session_view look mid) (session_view look new) t before acts says
      → TakesSteps b (session_view look mid) (session_view look new) t before acts
      → says_moved says ≡ false → RunsThrough look b old past new (after before acts) (Ok false)
  fails_through : (n : ℕ) (mid : SessionState X) (before acts : List Act) (t : Exchange) (why : SessionFault)
      → n < 64 → MovesThrough look b old past n mid before → has_ended mid.machine ≡ false
      → FitsAll b look new (after before acts)
      → IsFault b (session_view look mid) (session_view look new) t before acts (fault_of why)
      → OffersWhatWaits b (session_view look mid) (session_view look new) t
      → RunsThrough look b old past new (after before acts) (Err why)

pub record HasRun {X : Type 0} (look : X → LineView) (b : Beginning) (old : SessionState X) (past : List Act)
    (new : SessionState X) (ran : Result Bool SessionFault) : Type 0 where
  pub now : List Act
  pub through : RunsThrough look b old past new now ran

-- The law: whatever history the session had, the turns of a poll are turns of it, one after the other.
unfoldable pub RunsInHistories : {X : Type 0} → (X → LineView) → Type 0
RunsInHistories {X} look =
    (b : Beginning) (past : List Act) (old new : SessionState X) (ran : Result Bool SessionFault)
    → FitsAll b look old past → RunsTurns look old new ran → HasRun look b old past new ran

-- ## What isn't a poll

-- a session with a history: each that was begun and went on by calls is one
pub record IsSession {X : Type 0} (look : X → LineView) (s : SessionState X) : Type 0 where
  pub b : Beginning
  pub past : List Act
  pub fits : FitsAll b look s past

-- where a session's line is lost its turns come to Failed, whatever else they do
unfoldable pub LostFails : {X : Type 0} → (X → LineView) → Type 0
LostFails {X} look =
    (old new : SessionState X) (ran : Result Bool SessionFault) → IsSession look old
    → has_lost_line old ≡ true → RunsTurns look old new ran → ran ≡ Err fault.Failed

-- no loss of the line is kept back, neither by nothing given nor by Stopped
unfoldable pub NoLossIsKeptBack : {X : Type 0} → (X → LineView) → Type 0
NoLossIsKeptBack {X} look =
    (old new : SessionState X) (more : Bool) → IsSession look old → has_lost_line new ≡ true
    → ¬ RunsTurns look old new (Ok more)

-- a session whose line is lost doesn't give Stopped
unfoldable pub NoLossIsStopped : {X : Type 0} → (X → LineView) → Type 0
NoLossIsStopped {X} look =
    (old new : SessionState X) → IsSession look old → has_lost_line new ≡ true
    → ¬ PollsOn look old new (progress.Ended (Ok Stopped))

-- where octets wait, a poll calls the line: a body that makes no turn, or ticks instead, makes no poll
unfoldable pub CallsTheLine : {X : Type 0} → (X → LineView) → Type 0
CallsTheLine {X} look =
    (old new : SessionState X) (more : Bool) → IsSession look old → old.machine.unwritten ≢ []
    → (look old.line).calls < 2 ^ 64 - 1 → RunsTurns look old new (Ok more)
    → (look old.line).calls < (look new.line).calls

-- where a session's line is lost and no poll gave an end, its future gives Failed
unfoldable pub LostGivesFailed : {X : Type 0} → (X → LineView) → Type 0
LostGivesFailed {X} look =
    (s : SessionState X) (given : Result Ended SessionFault) → IsSession look s → has_lost_line s ≡ true
    → end_given s.machine.course ≡ None → Gives look s given → given ≡ Err fault.Failed
