-- What a turn of a simulated modem asks of its line, what it does, and what its answers mean: Moved, Idle and
-- Ended.
use Rattle.std.specs.Prelude.{◌≡◌, ◌≢◌, ℕ, ◌+◌, ◌<◌, ◌≤◌, ◌==◌, ◌||◌, nat_lt, Bool, true, false, List, [], ◌++◌, length, drop, Option, Some, None, is_none}
use Rattle.std.specs.List.{list_all, list_any}
use Rattle.mux_frame.specs.Frames.{Frame}
use Rattle.mux_frame.specs.Spelling as spelling
use Rattle.serial_line.specs.Counts.{one_more}
use Rattle.mux_station.specs.declared.role.Role.TheVariants.{Responder}
use Rattle.mux_station.specs.Stopping.{is_stopped}
use Rattle.mux_station.specs.Offering.{offered, data_out}
use Rattle.mux_station.specs.Acts as station
use Rattle.mux_station.specs.Sending as sending
use Rattle.modem_history.specs.EveryTurn.{count_taken, empty_after, stalled_after}
use Rattle.modem_history.specs.Turns.{Offers, Read, ReadHasRoom, Write, calls_made, counted, octets_read, octets_written}
use Rattle.serial_line.specs.LineViews.{LineView}
use Rattle.modem_sim.specs.declared.script.StepAct.{StepAct}
use Rattle.modem_sim.specs.declared.sim.SimTurn.{SimTurn}
use Rattle.modem_sim.specs.declared.sim.SimTurn.TheVariants.{Moved, Idle, Ended}
use Rattle.modem_sim.specs.Acts.{Act, Wire, End, setting, wire, is_open_at_modem, is_step_act, is_handing}
use Rattle.modem_sim.specs.Pieces.{pieces_octets}
use Rattle.modem_sim.specs.Outboxes.{outbox}
use Rattle.modem_sim.specs.Boxes.{is_released}
use Rattle.modem_sim.specs.Doing.{IsDue, call_of}
use Rattle.modem_sim.specs.Histories.{IsThrough, AllIsOut, DoesInOrder}
use Rattle.modem_sim.specs.Cores.{HasPassed, IsLater, IsGivenOn, after_wire_act, box_at, holds_over}
use Rattle.modem_sim.specs.Sims.{SimMachine, SimState, FitsSim, is_ended}

-- ## A turn's calls on the line

-- what a turn asked of its line, and what that answered
pub record Exchange : Type 0 where
  pub write : Option Write
  pub read : Option Read

-- of octets that wait, those that the line didn't take
abbrev pub left_of : Option Write → List ℕ → List ℕ
left_of write out = drop (count_taken write) out

-- what a turn exchanged with its line: it took the first of the octets that waited, and a read had room for one at
-- least
pub record Exchanges {X : Type 0} (see : X → LineView) (old new : SimState X) (t : Exchange) : Type 0 where
  pub came : (see new.line).received ≡ (see old.line).received ++ octets_read t.read
  pub room : ReadHasRoom t.read
  pub some_room : (r : Read) → t.read ≡ Some r → 1 ≤ r.room
  pub went : (see new.line).sent ≡ (see old.line).sent ++ octets_written t.write
  pub offers : Offers t.write (left_of t.write old.machine.out)
  pub parts : octets_written t.write ++ left_of t.write old.machine.out ≡ old.machine.out
  pub calls_are :
      (see new.line).calls ≡ counted (see old.line).calls (calls_made t.write + calls_made t.read)
  pub stalled_are : (see new.line).stalled_writes ≡ stalled_after t.write (see old.line).stalled_writes
  pub empty_are : (see new.line).empty_reads ≡ empty_after t.read (see old.line).empty_reads

-- Steps were done or passed over in their order. The line was read just where all octets that had come were fed.
-- Octets that it didn't take wait for the next turn. The first of the octets that have come were fed, at least one
-- where there was one, unless a frame is at hand.
pub record Leaves (old new : SimMachine) (t : Exchange) : Type 0 where
  pub passed : HasPassed old.core new.core
  pub reads : old.unfed ≡ [] → t.read ≢ None
  pub reads_fed : t.read ≢ None → old.unfed ≡ []
  pub waits : left_of t.write old.out ≢ [] → new.out ≡ left_of t.write old.out
  pub fed : List ℕ
  pub feeds : old.unfed ++ octets_read t.read ≡ fed ++ new.unfed
  pub some_fed : new.deframer.next ≡ None → old.unfed ++ octets_read t.read ≢ [] → fed ≢ []

-- ## What it does, one after the other

-- the station refuses what a step asks of it
pub record StepIsRefused (e : End) (past : List Act) (act : StepAct) : Type 0 where
  pub call : station.Call
  pub asked : call_of act ≡ Some call
  pub refused : sending.refused (setting e) (sending.station_view (setting e) (wire past)) call ≢ None

-- no step is due that could be done
abbrev pub NoneCanBeDone : End → List Act → Type 0
NoneCanBeDone e past = (act : StepAct) → IsDue e past act → StepIsRefused e past act

-- The steps that are due are done, until none can be. The steps done so far are the first of the script's, each
-- once and in order.
pub record DoesSteps (e : End) (past now : List Act) : Type 0 where
  pub later : IsLater past now
  pub only : list_all is_step_act later.newer ≡ true
  pub none_left : NoneCanBeDone e now
  pub in_order : DoesInOrder e now

-- octets are handed to the station: on each open connection all that is said, or some wait there already
pub record HandsOn (e : End) (past now : List Act) : Type 0 where
  pub later : IsLater past now
  pub only : list_all is_handing later.newer ≡ true
  pub all : (d : ℕ) → d < 62 → is_open_at_modem d now ≡ true
      → data_out Responder d (wire now) ≡ offered Responder d (wire now)
      → pieces_octets (outbox e d now).said ≡ offered Responder d (wire now)

-- no frame is there to be given on: none in the control queue, and no octets wait on an open connection but 0
-- that isn't stopped
pub record NoneIsThere (past : List Act) : Type 0 where
  pub queue : sending.queue (wire past) ≡ []
  pub sent : (d : ℕ) → d < 62 → (d == 0) ≡ false → is_open_at_modem d past ≡ true
      → is_stopped Responder d (wire past) ≡ false
      → data_out Responder d (wire past) ≡ offered Responder d (wire past)

-- Where the line left no octets, the next frame is put into the output, if there is one.
pub data PutsNext (e : End) (left out : List ℕ) (past now : List Act) : Type 0 where
  some_are_left : left ≢ [] → out ≡ left → now ≡ past → PutsNext e left out past now
  is_put :
      (between : List Act) (f : Frame) → left ≡ [] → HandsOn e past between → IsGivenOn between f now
      → out ≡ spelling.spelled f → PutsNext e left out past now
  none_is_there :
      left ≡ [] → HandsOn e past now → NoneIsThere now → out ≡ [] → PutsNext e left out past now

-- the frames that this one calls for fit into the control queue
abbrev pub has_room_for : End → List Act → Frame → Bool
has_room_for e past f =
    is_none (sending.got_refused (setting e) (sending.station_view (setting e) (wire past)) f)

-- the frame at hand is taken, where what it calls for finds room
pub data TakesAtHand (e : End) (hand : Option Frame) (past now : List Act) : Type 0 where
  none_at_hand : hand ≡ None → now ≡ past → TakesAtHand e hand past now
  has_no_room :
      (f : Frame) → hand ≡ Some f → has_room_for e past f ≡ false → now ≡ past → TakesAtHand e hand past now
  is_taken :
      (f : Frame) → hand ≡ Some f → has_room_for e past f ≡ true
      → now ≡ after_wire_act e past (station.Got f) → TakesAtHand e hand past now

-- A turn of a simulated modem that hadn't ended did each of these once, in this order: the steps that are due; the next
-- frame, where the line left no octets; the frame at hand.
pub record DoesEach (e : End) (old new : SimMachine) (t : Exchange) (past now : List Act) : Type 0 where
  pub stepped : List Act
  pub loaded : List Act
  pub steps : DoesSteps e past stepped
  pub loads : PutsNext e (left_of t.write old.out) new.out stepped loaded
  pub takes : TakesAtHand e old.deframer.next loaded now

-- ## Moved

abbrev pub is_fewer : {A : Type 0} → List A → List A → Bool
is_fewer xs ys = nat_lt (length xs) (length ys)

-- Octets came, or went; of those that came fewer wait for the deframer; steps were done or passed over; more
-- octets stand ready to be written; or a hold that was over was let go.
abbrev pub has_changed : {X : Type 0} → (X → LineView) → (old new : SimState X) → Bool
has_changed see old new =
    is_fewer (see old.line).received (see new.line).received
    || (is_fewer (see old.line).sent (see new.line).sent
    || (is_fewer new.machine.unfed old.machine.unfed
    || (is_fewer new.machine.core.steps old.machine.core.steps
    || (is_fewer old.machine.out new.machine.out
    || nat_lt (holds_over new.machine.core.boxes) (holds_over old.machine.core.boxes)))))

-- a frame was got, with the lines that end in it, or octets were handed to the station
abbrev pub is_work : Act → Bool
is_work (Wire (station.Got f)) = true
is_work (Wire (station.Called (station.Offer d octets))) = true
is_work _ = false

-- something was done: a frame was got, octets were handed to the station, or something changed
abbrev pub has_moved : {X : Type 0} → (X → LineView) → (old new : SimState X) → List Act → Bool
has_moved see old new acts = list_any is_work acts || has_changed see old new

-- ## Idle

-- the line was read in this turn with room for at least one octet, and gave none
pub record ReadsNothing (t : Exchange) : Type 0 where
  pub room : ℕ
  pub some : 1 ≤ room
  pub nothing : t.read ≡ Some (record { room = room; octets = [] })

-- Octets wait; the line was offered some in this turn and took none. Nothing came, or octets that came before wait
-- behind a frame at hand. A frame at hand finds no room for what it calls for. No step could be done.
pub record IsHeldUp (e : End) (k : SimMachine) (t : Exchange) (past : List Act) : Type 0 where
  pub waits : k.out ≢ []
  pub offered : List ℕ
  pub some : offered ≢ []
  pub took_none : t.write ≡ Some (record { offered = offered; count = 0 })
  pub reads : k.unfed ≡ [] → ReadsNothing t
  pub fed : k.deframer.next ≡ None → k.unfed ≡ []
  pub no_room : (f : Frame) → k.deframer.next ≡ Some f → has_room_for e past f ≡ false
  pub steps : NoneCanBeDone e past

-- All is written, and this turn's read gave nothing. Every frame that the octets received are read as has come. On each
-- open connection that is neither stopped nor held, all that is said has gone out. No step could be done.
pub record IsAtRest (e : End) (came went : List ℕ) (t : Exchange) (past : List Act) : Type 0 where
  pub nothing_came : ReadsNothing t
  pub through : IsThrough e.n1 came went past
  pub all_out : AllIsOut e past
  pub steps : NoneCanBeDone e past

-- By the line's counts: the read gave nothing, unless octets that came wait behind a frame at hand; and the
-- write took nothing, where octets wait.
pub record IsIdleAtLine {X : Type 0} (see : X → LineView) (old new : SimState X) : Type 0 where
  pub fed : new.machine.deframer.next ≡ None → new.machine.unfed ≡ []
  pub empty : new.machine.unfed ≡ [] → (see new.line).empty_reads ≡ one_more (see old.line).empty_reads
  pub stalled : new.machine.out ≢ [] → (see new.line).stalled_writes ≡ one_more (see old.line).stalled_writes

pub data IsIdle (e : End) (came went : List ℕ) (k : SimMachine) (t : Exchange) (past : List Act) : Type 0 where
  line_is_full : IsHeldUp e k t past → IsIdle e came went k t past
  at_rest : IsAtRest e came went t past → IsIdle e came went k t past

-- ## Want of memory

-- What a turn that was refused memory leaves to be done: a step that is due and asks nothing of the station,
-- but says or holds back something; on an open connection, octets of a hold that is over, still kept apart; or a frame
-- at hand.
pub data IsLeft (e : End) (k : SimMachine) (past : List Act) : Type 0 where
  step_is_due : (act : StepAct) → IsDue e past act → call_of act ≡ None → IsLeft e k past
  hold_is_over :
      (d : ℕ) → is_open_at_modem d past ≡ true → is_released (box_at k.core d).hold ≡ true → IsLeft e k past
  frame_at_hand : (f : Frame) → k.deframer.next ≡ Some f → IsLeft e k past

-- in each past that the simulated modem fits, something is left that takes memory
abbrev pub WantsMemory : {X : Type 0} → (look : X → LineView) → SimState X → Type 0
WantsMemory look s =
    (at : LineView) (e : End) (past : List Act) → FitsSim look at e s past → IsLeft e s.machine past

-- ## A turn

-- what an answer says: that something was done; that nothing was, and why; that it is over
pub data Means {X : Type 0} (see : X → LineView) (e : End) (came went : List ℕ) (old new : SimState X)
    (t : Exchange) (acts past : List Act) : SimTurn → Type 0 where
  has_done : has_moved see old new acts ≡ true → Means see e came went old new t acts past Moved
  stood_still :
      has_moved see old new acts ≡ false → IsIdle e came went new.machine t past
      → Means see e came went old new t acts past Idle
  is_over : is_ended new.machine ≡ true → Means see e came went old new t acts past Ended

-- by all that a turn does, the past goes on to one that the simulated modem fits, and its answer is true of that
pub record TurnFrom {X : Type 0} (see : X → LineView) (at : LineView) (e : End) (past : List Act)
    (old new : SimState X) (t : Exchange) (says : SimTurn) : Type 0 where
  pub now : List Act
  pub later : IsLater past now
  pub fits : FitsSim see at e new now
  pub does : is_ended old.machine ≡ false → DoesEach e old.machine new.machine t past now
  pub means : Means see e fits.came fits.went old new t later.newer now says

-- a turn that ends in this answer, whatever past it fitted before
pub record GoesTurn {X : Type 0} (see : X → LineView) (old new : SimState X) (says : SimTurn) : Type 0 where
  pub exchange : Exchange
  pub exchanges : Exchanges see old new exchange
  pub leaves : is_ended old.machine ≡ false → Leaves old.machine new.machine exchange
  pub idle : says ≡ Idle → IsIdleAtLine see old new
  pub turn :
      (at : LineView) (e : End) (past : List Act) → FitsSim see at e old past
      → TurnFrom see at e past old new exchange says
