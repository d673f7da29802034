-- Turns of a session: how each ends.
use Rattle.std.specs.Prelude.{◌≡◌, ◌≢◌, ℕ, ◌+◌, ◌<◌, ◌≤◌, length, drop, None, Some, Bool, true, false, [], take, slice_index_or}
use mathlib.Core.Option.{some}
use lib.ListN.{get_elem?}
use Rattle.mux_frame.specs.Frames.{Frame}
use Rattle.mux_frame.specs.Deframing.{TakesIn}
use Rattle.at_text.specs.declared.unsolicited.UrcKind.{UrcKind}
use Rattle.modem_desk.specs.Ends.{DriverView}
use Rattle.modem_history.specs.Sessions.{LineView, at_place}
use Rattle.modem_history.specs.Turns.{TurnAnswer, TurnFault}
use Rattle.modem_history.specs.EveryTurn.{GoesTurn, GoesFault}
use Rattle.modem_history.specs.Wholes.{IsPrefixOf}
use Rattle.modem_driver.specs.declared.session.error.SessionFault.{SessionFault}
use Rattle.modem_driver.specs.declared.session.turn.Turn.{Turn}
use Rattle.modem_driver.specs.Endings.{KeepsEnd}
use Rattle.modem_core.specs.WaitingLists.{IsLeast, IsFirstOf}
use Rattle.modem_driver.specs.SessionStates.{Machine, MachineLoses, SessionState, FitsInside, has_lost_line, session_view}
use Rattle.modem_driver.specs.TurnSteps.{TurnState, Writes, ReadsOn}

-- a session as its turn sees it
abbrev pub standing_of : {X : Type 0} → (X → LineView) → SessionState X → TurnState
standing_of look s = record { line = look s.line; driver = s.driver; machine = s.machine }

-- ## Which answer it is

-- all octets are written, and an outcome waits for this caller, the least
pub record HasOutcome (k : Machine) (c : ℕ) : Type 0 where
  pub written : k.unwritten ≡ []
  pub waits : IsLeast c k.unplaced

-- all octets are written, all outcomes are placed, and the first line that waits is of this kind
pub record HasLine (k : Machine) (kind : UrcKind) : Type 0 where
  pub written : k.unwritten ≡ []
  pub placed : k.unplaced ≡ []
  pub waits : IsFirstOf kind k.unannounced

pub record HasNothing (k : Machine) : Type 0 where
  pub written : k.unwritten ≡ []
  pub placed : k.unplaced ≡ []
  pub announced : k.unannounced ≡ []

-- Moved where something moved; else what still waits says which answer it is.
abbrev pub Answers : Machine → (moved : Bool) → TurnAnswer → Type 0
Answers k moved TurnAnswer.Moved = moved ≡ true
Answers k moved TurnAnswer.WriterFull = (moved ≡ false) × (k.unwritten ≢ [])
Answers k moved (TurnAnswer.Waiting c) = (moved ≡ false) × HasOutcome k c
Answers k moved (TurnAnswer.Blocked kind) = (moved ≡ false) × HasLine k kind
Answers k moved TurnAnswer.Idle = (moved ≡ false) × HasNothing k

-- a turn's answer, as the definitions name it
abbrev pub turn_answer : Turn → TurnAnswer
turn_answer Turn.Moved = TurnAnswer.Moved
turn_answer Turn.WriterFull = TurnAnswer.WriterFull
turn_answer (Turn.Waiting caller) = TurnAnswer.Waiting caller
turn_answer (Turn.Blocked kind) = TurnAnswer.Blocked kind
turn_answer Turn.Idle = TurnAnswer.Idle

-- a session's fault, as the definitions name it
abbrev pub fault_of : SessionFault → TurnFault
fault_of SessionFault.NoMemory = TurnFault.NoMemory
fault_of SessionFault.Line = TurnFault.LineFailed
fault_of SessionFault.Failed = TurnFault.Failed

-- ## Turns and faults, whatever the session began with

-- a session's turn that ends in this answer
unfoldable pub TakesTurn : {X : Type 0} → (X → LineView) → (old new : SessionState X) → TurnAnswer → Type 0
TakesTurn look old new says =
    GoesTurn (session_view look old) (session_view look new) (λ b. FitsInside b look old)
    (λ b. FitsInside b look new) says

-- a session's turn that ends in this fault
unfoldable pub Faults : {X : Type 0} → (X → LineView) → (old new : SessionState X) → TurnFault → Type 0
Faults look old new says =
    GoesFault (session_view look old) (session_view look new) (λ b. FitsInside b look old)
    (λ b. FitsInside b look new) says

-- Whichever way it ends: the line had at most two calls more, the desk's end keeps what it took, what it told
-- each caller and what it announced to each listener, and an end that a poll gave stays.
pub record HasTurned (old new : TurnState) : Type 0 where
  pub calls : new.line.calls ≤ old.line.calls + 2
  pub taken : IsPrefixOf old.driver.taken new.driver.taken
  pub told : (c : ℕ) → IsPrefixOf (at_place c old.driver.told) (at_place c new.driver.told)
  pub announced : (i : ℕ) → IsPrefixOf (at_place i old.driver.announced) (at_place i new.driver.announced)
  pub ended : KeepsEnd old.machine.course new.machine.course

-- an outcome waits only where its caller's ring has no place that the desk's end knows to be free, and a line
-- only where its listener's has none
abbrev pub HasNoPlace : DriverView → TurnAnswer → Type 0
HasNoPlace d (TurnAnswer.Waiting c) = c < length d.desk.rings → slice_index_or d.free c 0 ≡ 0
HasNoPlace d (TurnAnswer.Blocked kind) =
    (i : ℕ) → get_elem? d.desk.kinds i ≡ some kind → slice_index_or d.free_lines i 0 ≡ 0
HasNoPlace d _ = Unit {0}

-- after a fault other than want of memory the line is lost
abbrev pub LeavesLost : {X : Type 0} → SessionFault → SessionState X → Type 0
LeavesLost SessionFault.NoMemory s = Unit {0}
LeavesLost SessionFault.Line s = has_lost_line s ≡ true
LeavesLost SessionFault.Failed s = has_lost_line s ≡ true

-- after a failing call on the line: the line is lost, or it was lost before
abbrev pub LosesOr : SessionFault → (old new : TurnState) → Type 0
LosesOr SessionFault.Line old new = (new ≡ record old { machine = new.machine }) × MachineLoses old.machine new.machine
LosesOr SessionFault.NoMemory old new = ⊥
LosesOr SessionFault.Failed old new = (new ≡ old) × (old.machine.core.lost ≡ true)

-- ## Calls on the line

-- a step by a call on the line, whatever the desk's end is
unfoldable pub MachineWrites : (before later : LineView) → (old new : Machine) → (moved : Bool) → Type 0
MachineWrites before later old new moved =
    (d : DriverView) → Writes (record { line = before; driver = d; machine = old })
    (record { line = later; driver = d; machine = new }) moved

-- the step that reads and feeds, whatever the desk's end is
unfoldable pub MachineReads : (before later : LineView) → (old new : Machine) → (moved : Bool) → Type 0
MachineReads before later old new moved =
    (d : DriverView) → ReadsOn (record { line = before; driver = d; machine = old })
    (record { line = later; driver = d; machine = new }) moved

-- the first octets that wait are given to the deframer
pub record Feeds (old new : Machine) (count : ℕ) : Type 0 where
  pub takes : TakesIn old.deframer (take count old.unfed) new.deframer
  pub bound : new.deframer.n1 ≡ old.deframer.n1
  pub few : count ≤ length old.unfed
  pub some : old.deframer.next ≡ None → 0 < length old.unfed → 0 < count
  pub frame_stays : (f : Frame) → old.deframer.next ≡ Some f → new.deframer.next ≡ Some f
  pub stays : new ≡ record old { unfed = drop count old.unfed; deframer = new.deframer }
