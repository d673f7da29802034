-- What a sequence of a session's calls comes to: one history, to which each call adds its acts.
use Rattle.std.specs.Prelude.{◌≡◌, List, [], ◌∷◌}
use Rattle.modem_history.specs.Acts.{Act, after}
use Rattle.modem_history.specs.EveryTurn.{OffersWhatWaits, TakesSteps}
use Rattle.modem_history.specs.Sessions.{Beginning, LineView, SessionFits, SessionView}
use Rattle.modem_history.specs.Turns.{Exchange, IsFault, IsTick, IsTurn, TurnAnswer, TurnFault}
use Rattle.modem_driver.specs.declared.session.polling.Progress.{Progress}
use Rattle.modem_driver.specs.Grown.{HasGrown}
use Rattle.modem_driver.specs.Polls.{Polls}
use Rattle.modem_driver.specs.SessionStates.{FitsAll, SessionState, Ticks, session_view}
use Rattle.modem_driver.specs.SessionTurns.{Faults, TakesTurn}

-- ## What is seen of calls

-- which call it was: a turn and its answer or its fault, a poll, or a tick
pub data CallKind : Type 0 where
  Turned : TurnAnswer → CallKind
  Failed : TurnFault → CallKind
  Polled : CallKind
  Ticked : CallKind

-- a call, and the session as it was seen after it; before it the session was as after the one before
pub record SessionCall : Type 0 where
  pub kind : CallKind
  pub now : SessionView

-- the session as it is seen after these calls, newest first
abbrev pub seen_after : SessionView → List SessionCall → SessionView
seen_after first [] = first
seen_after first (c ∷ calls) = c.now

-- ## Their history

-- What a call between these views does to a history: a turn, a fault and a tick add the acts that they have after it, and the
-- session then fits the longer one. A poll adds those of its turns, one after the other.
pub data Adds (b : Beginning) : (old : SessionView) → (past : List Act) → (new : SessionView) → CallKind
    → (now : List Act) → Type 0 where
  by_turn : (old new : SessionView) (t : Exchange) (past acts : List Act) (says : TurnAnswer)
      → IsTurn b old new t past acts says → TakesSteps b old new t past acts → SessionFits b new (after past acts)
      → Adds b old past new (Turned says) (after past acts)
  by_fault : (old new : SessionView) (t : Exchange) (past acts : List Act) (why : TurnFault)
      → IsFault b old new t past acts why → OffersWhatWaits b old new t → SessionFits b new (after past acts)
      → Adds b old past new (Failed why) (after past acts)
  by_tick : (old new : SessionView) (past acts : List Act) → IsTick old new past acts → SessionFits b new (after past acts)
      → Adds b old past new Ticked (after past acts)
  no_turn : (old : SessionView) (past : List Act) → Adds b old past old Polled past
  turn_more : (old mid new : SessionView) (past before now : List Act) (says : TurnAnswer)
      → Adds b old past mid Polled before → Adds b mid before new (Turned says) now → Adds b old past new Polled now
  fault_more : (old mid new : SessionView) (past before now : List Act) (why : TurnFault)
      → Adds b old past mid Polled before → Adds b mid before new (Failed why) now → Adds b old past new Polled now

-- The history of a session that was seen so at first, after these calls, newest first: it was empty, and each call went on
-- from the history that the calls before it had made.
pub data HasLived (b : Beginning) (first : SessionView) : List SessionCall → List Act → Type 0 where
  begun : SessionFits b first [] → HasLived b first [] []
  lived_on : (calls : List SessionCall) (c : SessionCall) (past now : List Act) → HasLived b first calls past
      → Adds b (seen_after first calls) past c.now c.kind now → HasLived b first (c ∷ calls) now

-- ## A session's calls

abbrev pub call_of : {X : Type 0} → (X → LineView) → CallKind → SessionState X → SessionCall
call_of look kind s = record { kind = kind; now = session_view look s }

-- by these calls, newest first, each by its clause, a session came from first to last; where its line was lent, what is
-- seen of the line stayed
pub data Called {X : Type 0} (look : X → LineView) (first : SessionState X) : SessionState X → List SessionCall → Type 0 where
  none_called : Called look first first []
  turn_called : (old new : SessionState X) (calls : List SessionCall) (says : TurnAnswer) → Called look first old calls
      → TakesTurn look old new says → Called look first new (call_of look (Turned says) new ∷ calls)
  fault_called : (old new : SessionState X) (calls : List SessionCall) (why : TurnFault) → Called look first old calls
      → Faults look old new why → Called look first new (call_of look (Failed why) new ∷ calls)
  poll_called : (old new : SessionState X) (calls : List SessionCall) (given : Progress) → Called look first old calls
      → Polls look old new given → Called look first new (call_of look Polled new ∷ calls)
  tick_called : (old new : SessionState X) (calls : List SessionCall) → Called look first old calls
      → Ticks look old new → Called look first new (call_of look Ticked new ∷ calls)
  line_lent : (old : SessionState X) (line : X) (calls : List SessionCall) → Called look first old calls
      → look line ≡ look old.line → Called look first (record old { line = line }) calls

-- some calls, by which a session came from first to last
pub record HasCalls {X : Type 0} (look : X → LineView) (first last : SessionState X) : Type 0 where
  pub calls : List SessionCall
  pub called : Called look first last calls

-- ## The law

-- the one history of these calls, which the session fits
pub record HasOne {X : Type 0} (look : X → LineView) (b : Beginning) (first last : SessionState X)
    (calls : List SessionCall) : Type 0 where
  pub past : List Act
  pub lived : HasLived b (session_view look first) calls past
  pub seen : seen_after (session_view look first) calls ≡ session_view look last
  pub fits : FitsAll b look last past

-- The law: a session that has just begun has one history, whatever turns, polls and ticks follow, to which each of these
-- adds its acts.
unfoldable pub OneSession : {X : Type 0} → (X → LineView) → Type 0
OneSession {X} look =
    (b : Beginning) (first last : SessionState X) (calls : List SessionCall) → FitsAll b look first []
    → Called look first last calls → HasOne look b first last calls

-- what was seen of the session, newest first, before these calls, between them and after them
abbrev pub seen_by_calls : SessionView → List SessionCall → List SessionView
seen_by_calls first [] = first ∷ []
seen_by_calls first (c ∷ calls) = c.now ∷ seen_by_calls first calls

-- so the history grew: at each sight of the session it fits the history so far
unfoldable pub LivedGrows : Type 0
LivedGrows =
    (b : Beginning) (first : SessionView) (calls : List SessionCall) (past : List Act) → HasLived b first calls past
    → HasGrown b (seen_by_calls first calls) past
