-- What every turn does, whatever it answers: its steps, each in its order.
use Rattle.std.specs.Prelude.{◌≡◌, ◌≢◌, ℕ, ◌+◌, ◌<◌, ◌≤◌, ◌==◌, not, Bool, true, false, List, [], ◌∷◌, ◌++◌, length, drop, Option, Some, None, option_to_list, slice_index_or, if◌then◌else◌}
use Rattle.std.specs.List.{list_all}
use mathlib.Core.Option.{some}
use lib.ListN.{get_elem?}
use Rattle.mux_frame.specs.Frames.{Frame}
use Rattle.mux_frame.specs.Spelling.{spelled}
use Rattle.mux_station.specs.Written.{is_data_frame}
use Rattle.mux_station.specs.GivenFrames.{Outgoing}
use Rattle.at_text.specs.declared.unsolicited.UrcKind.{UrcKind}
use Rattle.modem_history.specs.Limits.{most_in_hand}
use Rattle.modem_history.specs.Acts.{Act, Sent, Held, Freed, after, in_hand}
use Rattle.modem_history.specs.Kinds.{of_kind}
use Rattle.modem_history.specs.GoingOut.{next_out, act_out}
use Rattle.modem_history.specs.Sessions.{Beginning, SessionView, FitsWith, GoesBy, driving, gots, at_place, caller_outcomes}
use Rattle.modem_history.specs.Turns.{Exchange, Write, Read, TurnAnswer, TurnFault, IsTurn, IsFault, HoldsWhereRoom, counted, octets_read, has_room_for}

-- ## What waits is offered to the desk

-- a ring was given some of what waited for it, in order, and the rest still waits
pub record GivesSome {A : Type 0} (before now waited waits : List A) : Type 0 where
  pub given : List A
  pub given_are : now ≡ before ++ given
  pub rest_are : given ++ waits ≡ waited

abbrev pub count_at : ℕ → List ℕ → ℕ
count_at i counts = slice_index_or counts i 0

-- Each outcome that waited was told or still waits, in the order of its caller, and each line that waited was
-- announced or still waits, in the order of its kind. The desk's end counted what it handed back.
pub record OffersWhatWaits (b : Beginning) (old new : SessionView) (t : Exchange) : Type 0 where
  pub outcomes : (c : ℕ) → GivesSome (at_place c old.desk.told) (at_place c new.desk.told)
      (caller_outcomes c old.unplaced) (caller_outcomes c t.still_told)
  pub lines : (i : ℕ) (k : UrcKind) → get_elem? b.kinds i ≡ some k
      → GivesSome (at_place i old.desk.announced) (at_place i new.desk.announced) (of_kind k old.unannounced)
      (of_kind k t.still_heard)
  pub outcomes_back : (c : ℕ) → c < b.callers
      → count_at c new.desk.told_back
      ≡ counted (count_at c old.desk.told_back) (length (caller_outcomes c t.told_back))
  pub lines_back : (i : ℕ) (k : UrcKind) → get_elem? b.kinds i ≡ some k
      → count_at i new.desk.announced_back
      ≡ counted (count_at i old.desk.announced_back) (length (of_kind k t.heard_back))

-- ## The next frame goes into the output

-- an act by which a connection is held or freed
abbrev pub is_check : Act → Bool
is_check (Held d) = true
is_check (Freed d) = true
is_check (Sent f) = not (is_data_frame f)
is_check _ = false

abbrev pub octets_out : Option Outgoing → List ℕ
octets_out None = []
octets_out (Some o) = spelled o.frame

abbrev pub acts_out : Option Outgoing → List Act
acts_out None = []
acts_out (Some o) = act_out o ∷ []

-- the frame that goes into the output after this past: none where octets wait there
abbrev pub goes_in : Beginning → SessionView → List Act → Option Outgoing
goes_in b old past = if length old.unwritten == 0 then next_out (driving b) past else None

-- ## Calls on the line

abbrev pub octets_offered : Option Write → List ℕ
octets_offered None = []
octets_offered (Some w) = w.offered

abbrev pub count_taken : Option Write → ℕ
count_taken None = 0
count_taken (Some w) = w.count

-- a count of calls that moved nothing, after a call that could move so many octets and moved n
abbrev pub counted_none : (could n count : ℕ) → ℕ
counted_none could n count = if could == 0 then count else if n == 0 then counted count 1 else count

abbrev pub stalled_after : Option Write → ℕ → ℕ
stalled_after None count = count
stalled_after (Some w) count = counted_none (length w.offered) w.count count

abbrev pub empty_after : Option Read → ℕ → ℕ
empty_after None count = count
empty_after (Some r) count = counted_none r.room (length r.octets) count

-- The octets that waited, or else those of the next frame, were offered to the line, and those that it didn't
-- take still wait.
pub record WritesOn (old new : SessionView) (t : Exchange) (out : List ℕ) : Type 0 where
  pub offered : octets_offered t.write ≡ old.unwritten ++ out
  pub left : new.unwritten ≡ drop (count_taken t.write) (old.unwritten ++ out)
  pub stalled : new.line.stalled_writes ≡ stalled_after t.write old.line.stalled_writes

-- the line was read, with room, where all octets that had come were fed
abbrev pub ReadsWhereFed : Option Read → List ℕ → Type 0
ReadsWhereFed None unfed = unfed ≢ []
ReadsWhereFed (Some r) unfed = 1 ≤ r.room

-- The line was read where all octets that had come were fed. Some of what waits to be fed was fed, unless a frame is at
-- hand.
pub record ReadsOn (old new : SessionView) (t : Exchange) : Type 0 where
  pub reads : ReadsWhereFed t.read old.unfed
  pub empty : new.line.empty_reads ≡ empty_after t.read old.line.empty_reads
  pub feeds : new.deframer.next ≡ None → old.unfed ++ octets_read t.read ≢ []
      → length new.unfed < length old.unfed + length (octets_read t.read)

-- ## The frame at hand

-- the frame at hand was got, or there was no room for what it calls for
pub data Handles (b : Beginning) (hand : Option Frame) (before acts : List Act) : Type 0 where
  gets : gots acts ≡ option_to_list hand → Handles b hand before acts
  waits : (f : Frame) → hand ≡ Some f → has_room_for b before f ≡ false → gots acts ≡ []
      → Handles b hand before acts

-- ## A request

abbrev pub asked_in_vain : {A : Type 0} → Option (Option A) → ℕ
asked_in_vain (Some None) = 1
asked_in_vain _ = 0

-- The desk was asked for a request, unless there was no room for one more. It counted where it had none.
pub record Asks (old new : SessionView) (t : Exchange) (past : List Act) : Type 0 where
  pub asks : t.next ≡ None → length (in_hand past) + length new.unplaced ≡ most_in_hand
  pub found_none : new.desk.found_none ≡ counted old.desk.found_none (asked_in_vain t.next)

-- ## A turn

-- What waited was offered to the desk. Backlogs were looked at: each connection was held by its backlog then,
-- or no MSC had a place. An empty output got the next frame, and what waits was offered to the line. The frame
-- at hand was handled, or had no room. The line was read, and what came was fed. A request was asked for.
pub record TakesSteps (b : Beginning) (old new : SessionView) (t : Exchange) (past acts : List Act) :
    Type 0 where
  pub offers : OffersWhatWaits b old new t
  pub checks : List Act
  pub are_checks : list_all is_check checks ≡ true
  pub held : HoldsWhereRoom b (record new { unannounced = t.still_heard }) (after past checks)
  pub rest : List Act
  pub acts_are : acts ≡ checks ++ acts_out (goes_in b old (after past checks)) ++ rest
  pub writes : WritesOn old new t (octets_out (goes_in b old (after past checks)))
  pub handles : Handles b old.deframer.next
      (after past (checks ++ acts_out (goes_in b old (after past checks)))) acts
  pub reads : ReadsOn old new t
  pub asks : Asks old new t (after past acts)

-- a turn that took all its steps and ends in this answer: its acts and its exchange are the same whatever the session
-- began with and whatever history it had
pub record GoesTurn (old new : SessionView) (core later : Beginning → List Act → Type 0)
    (says : TurnAnswer) : Type 0 where
  pub acts : List Act
  pub exchange : Exchange
  pub goes : (b : Beginning) → GoesBy b old new (core b) (later b) acts
  pub turn : (b : Beginning) (past : List Act) → FitsWith b old (core b) past
      → IsTurn b old new exchange past acts says
  pub steps : (b : Beginning) (past : List Act) → FitsWith b old (core b) past
      → TakesSteps b old new exchange past acts

-- a turn that ends in this fault, once what waits was offered to the desk
pub record GoesFault (old new : SessionView) (core later : Beginning → List Act → Type 0)
    (says : TurnFault) : Type 0 where
  pub acts : List Act
  pub exchange : Exchange
  pub goes : (b : Beginning) → GoesBy b old new (core b) (later b) acts
  pub fault : (b : Beginning) (past : List Act) → FitsWith b old (core b) past
      → IsFault b old new exchange past acts says
  pub offers : (b : Beginning) (past : List Act) → FitsWith b old (core b) past
      → OffersWhatWaits b old new exchange
