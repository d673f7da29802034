-- The steps of a turn: what each is promised to do. A step leads on by some acts, the same whatever history
-- there was, and says whether it moved anything.
use Rattle.std.specs.Prelude.{◌≡◌, ◌≢◌, ℕ, ◌+◌, ◌≤◌, ◌<◌, ◌||◌, ◌⊎◌, not, nat_lt, Bool, true, false, List, [], ◌++◌, length, map, take, drop, Option, None, Some, option_to_list, slice_index_or}
use Rattle.std.specs.List.{list_all, list_any}
use mathlib.Core.Option.{some}
use lib.ListN.{get_elem?}
use Rattle.mux_frame.specs.Frames.{Frame}
use Rattle.at_text.specs.declared.unsolicited.UrcKind.{UrcKind}
use Rattle.modem_desk.specs.declared.request.Request.{Request}
use Rattle.modem_desk.specs.declared.request.Outcome.{Outcome}
use Rattle.modem_desk.specs.declared.request.Urc.{Urc}
use Rattle.modem_desk.specs.Ends.{DriverView}
use Rattle.modem_history.specs.Limits.{most_in_hand}
use Rattle.modem_history.specs.Acts.{Act, after, in_hand}
use Rattle.modem_history.specs.Calls.{is_lost}
use Rattle.modem_history.specs.Kinds.{of_kind}
use Rattle.modem_history.specs.Sessions.{Beginning, LineView, SessionView, FitsWith, GoesBy, driving, gots, heard_as, at_place, caller_outcomes}
use Rattle.modem_history.specs.Turns.{Write, Read, Offers, ReadHasRoom, HoldsByBacklog, HoldsWhereRoom, octets_written, octets_read, request_given, calls_made, counted, outcomes_told, lines_heard, may_act, is_mark, amount, has_room_for}
use Rattle.modem_history.specs.GoingOut.{next_out}
use Rattle.modem_history.specs.EveryTurn.{GivesSome, ReadsWhereFed, count_at, is_check, octets_out, acts_out, goes_in, octets_offered, count_taken, stalled_after, empty_after, asked_in_vain}
use Rattle.modem_core.specs.Running.{CoreIsIdle}
use Rattle.modem_driver.specs.Endings.{KeepsEnd}
use Rattle.modem_driver.specs.SessionStates.{AreFormed, Machine, MachineFits, seen_by, end_of}

-- ## What a turn works on

-- the line, the desk's end, and what is kept beside them
pub record TurnState : Type 0 where
  pub line : LineView
  pub driver : DriverView
  pub machine : Machine

-- a session as its steps see it
abbrev pub turn_state : LineView → DriverView → Machine → TurnState
turn_state l d k = record { line = l; driver = d; machine = k }

abbrev pub view_of : TurnState → SessionView
view_of s = seen_by s.line (end_of s.driver) s.machine

abbrev pub inside : Beginning → TurnState → List Act → Type 0
inside b s past = MachineFits b s.line s.driver s.machine past

abbrev pub StandingFits : Beginning → TurnState → List Act → Type 0
StandingFits b s past = FitsWith b (view_of s) (inside b s) past

-- by these acts old goes on to new, whatever history there was
unfoldable pub Leads : (old new : TurnState) → List Act → Type 0
Leads old new acts = (b : Beginning) → GoesBy b (view_of old) (view_of new) (inside b old) (inside b new) acts

-- an act that isn't a mark alone
abbrev pub is_more : Act → Bool
is_more a = not (is_mark a)

-- What the acts told and heard waits behind what waited. A turn may have these acts while these lines wait. At most so
-- many frames were handled.
pub record Adds (old new : Machine) (waiting : List Urc) (most : ℕ) (acts : List Act) : Type 0 where
  pub outcomes : new.unplaced ≡ old.unplaced ++ outcomes_told acts
  pub lines : map heard_as new.unannounced ≡ map heard_as old.unannounced ++ lines_heard acts
  pub may : list_all (may_act waiting) acts ≡ true
  pub few_got : length (gots acts) ≤ most

-- `Adds` holds after every history that the session fits
unfoldable pub AddsAll : (old new : TurnState) → List Urc → ℕ → List Act → Type 0
AddsAll old new waiting most acts =
    (b : Beginning) (past : List Act) → StandingFits b old past
    → Adds old.machine new.machine waiting most acts

-- ## What waits is offered to the desk

-- Of each caller and of each kind the first that still waits was handed back, and no other: its ring has no
-- free place that the desk's end knows of.
pub record Places (old new : TurnState) (moved : Bool) : Type 0 where
  pub told_back : List Outcome
  pub heard_back : List Urc
  pub leads : Leads old new []
  pub outcomes_back : (c : ℕ) → caller_outcomes c told_back ≡ take 1 (caller_outcomes c new.machine.unplaced)
  pub lines_back : (k : UrcKind) → of_kind k heard_back ≡ take 1 (of_kind k new.machine.unannounced)
  pub rings_full : (c : ℕ) → c < length new.driver.desk.rings → caller_outcomes c new.machine.unplaced ≢ []
      → slice_index_or new.driver.free c 0 ≡ 0
  pub lines_full : (i : ℕ) (k : UrcKind) → get_elem? new.driver.desk.kinds i ≡ some k
      → of_kind k new.machine.unannounced ≢ [] → slice_index_or new.driver.free_lines i 0 ≡ 0
  -- what a caller was told and a listener was announced is the first of what waited for it
  pub each_told : (c : ℕ) → GivesSome (at_place c old.driver.told) (at_place c new.driver.told)
      (caller_outcomes c old.machine.unplaced) (caller_outcomes c new.machine.unplaced)
  pub each_announced : (i : ℕ) (k : UrcKind) → get_elem? old.driver.desk.kinds i ≡ some k
      → GivesSome (at_place i old.driver.announced) (at_place i new.driver.announced)
      (of_kind k old.machine.unannounced) (of_kind k new.machine.unannounced)
  pub elsewhere : (i : ℕ) → ((k : UrcKind) → ¬ (get_elem? old.driver.desk.kinds i ≡ some k))
      → at_place i new.driver.announced ≡ at_place i old.driver.announced
  pub told_counts : (c : ℕ) → c < length old.driver.desk.rings
      → count_at c new.driver.told_back
      ≡ counted (count_at c old.driver.told_back) (length (caller_outcomes c told_back))
  pub announced_counts : (i : ℕ) (k : UrcKind) → get_elem? old.driver.desk.kinds i ≡ some k
      → count_at i new.driver.announced_back
      ≡ counted (count_at i old.driver.announced_back) (length (of_kind k heard_back))
  pub found_stays : new.driver.found_none ≡ old.driver.found_none
  pub moved_is : moved ≡ (nat_lt (amount old.driver.told) (amount new.driver.told)
      || nat_lt (amount old.driver.announced) (amount new.driver.announced))
  pub told_grows : amount old.driver.told ≤ amount new.driver.told
  pub announced_grows : amount old.driver.announced ≤ amount new.driver.announced
  pub taken_stays : new.driver.taken ≡ old.driver.taken
  pub desk_stays : new.driver.desk ≡ old.driver.desk
  pub stays : new ≡ record old {
    driver = new.driver;
    machine = record old.machine { unplaced = new.machine.unplaced; unannounced = new.machine.unannounced };
  }

-- ## Backlogs are looked at

-- Each connection is then held by its backlog, unless control frames wait. Where nothing was done, it was so before,
-- unless no MSC had a place.
pub record Checks (old new : TurnState) (moved : Bool) : Type 0 where
  pub acts : List Act
  pub leads : Leads old new acts
  pub adds : AddsAll old new old.machine.unannounced 0 acts
  pub moved_is : moved ≡ list_any is_more acts
  pub held : (b : Beginning) (past : List Act) → StandingFits b old past
      → new.machine.core.lost ≡ false → new.machine.core.station.queue ≡ []
      → HoldsByBacklog (view_of new) (after past acts)
  pub looks : moved ≡ false
      → (acts ≡ []) × ((b : Beginning) (past : List Act) → StandingFits b old past
      → is_lost past ≡ false → HoldsWhereRoom b (view_of new) past)
  pub are_checks : list_all is_check acts ≡ true
  pub looked : (b : Beginning) (past : List Act) → StandingFits b old past → is_lost past ≡ false
      → HoldsWhereRoom b (view_of new) (after past acts)
  pub stays : new ≡ record old { machine = record old.machine { core = new.machine.core } }

-- ## The next frame goes into the output

-- Where octets waited already, nothing is done. Where none wait afterwards, nothing was left to send.
pub record SendsOn (old new : TurnState) (moved : Bool) : Type 0 where
  pub acts : List Act
  pub leads : Leads old new acts
  pub adds : (waiting : List Urc) → AddsAll old new waiting 0 acts
  pub moved_is : moved ≡ list_any is_more acts
  pub idle : new.machine.unwritten ≡ [] → (acts ≡ []) × ((new ≡ old) × CoreIsIdle new.machine.core)
  pub none_left : new.machine.unwritten ≡ [] → (b : Beginning) (past : List Act) → StandingFits b new past
      → next_out (driving b) past ≡ None
  pub busy : moved ≡ false → old.machine.unwritten ≢ [] → (acts ≡ []) × (new ≡ old)
  pub acts_are : (b : Beginning) (past : List Act) → StandingFits b old past
      → acts ≡ acts_out (goes_in b (view_of old) past)
  pub octets_are : (b : Beginning) (past : List Act) → StandingFits b old past
      → new.machine.unwritten ≡ old.machine.unwritten ++ octets_out (goes_in b (view_of old) past)
  pub stays : new ≡ record old {
    machine = record old.machine { core = new.machine.core; unwritten = new.machine.unwritten };
  }

-- ## Octets are written

-- Where octets wait, they are offered to the line once; a call that fails is kept in mind.
pub record Writes (old new : TurnState) (moved : Bool) : Type 0 where
  pub write : Option Write
  pub leads : Leads old new []
  pub offers : Offers write new.machine.unwritten
  pub offered : octets_offered write ≡ old.machine.unwritten
  pub left : new.machine.unwritten ≡ drop (count_taken write) old.machine.unwritten
  pub stalled : new.machine.faulty ≡ false
      → new.line.stalled_writes ≡ stalled_after write old.line.stalled_writes
  pub empty_stays : new.line.empty_reads ≡ old.line.empty_reads
  pub went : new.line.sent ≡ old.line.sent ++ octets_written write
  pub came_none : new.line.received ≡ old.line.received
  pub calls : new.line.calls ≡ counted old.line.calls (calls_made write)
  pub moved_is : moved ≡ nat_lt (length old.line.sent) (length new.line.sent)
  pub still : moved ≡ false → new.machine.faulty ≡ old.machine.faulty → new.machine ≡ old.machine
  pub stays : new ≡ record old {
    line = new.line;
    machine = record old.machine { unwritten = new.machine.unwritten; faulty = new.machine.faulty };
  }

-- ## The frame at hand is handled

-- The frame at hand is handled, or stays where there is no room for what it calls for.
pub record Gets (old new : TurnState) (moved : Bool) : Type 0 where
  pub acts : List Act
  pub leads : Leads old new acts
  pub adds : (waiting : List Urc) → AddsAll old new waiting 1 acts
  pub moved_is : moved ≡ list_any is_more acts
  pub still : moved ≡ false → (acts ≡ []) × (new ≡ old)
  pub got : (b : Beginning) (past : List Act) → StandingFits b old past → moved ≡ true
      → gots acts ≡ option_to_list old.machine.deframer.next
  pub ended : KeepsEnd old.machine.course new.machine.course
  pub no_room : (f : Frame) → moved ≡ false → old.machine.deframer.next ≡ Some f
      → (¬ CoreIsIdle old.machine.core)
      × ((b : Beginning) (past : List Act) → StandingFits b old past → has_room_for b past f ≡ false)
  pub stays : new ≡ record old {
    machine = record old.machine {
      core = new.machine.core;
      deframer = new.machine.deframer;
      unplaced = new.machine.unplaced;
      unannounced = new.machine.unannounced;
      course = new.machine.course;
    };
  }

-- ## Octets are read and fed

-- Where no octets wait, the line is read once; a call that fails is kept in mind. What waits is given to the deframer.
pub record ReadsOn (old new : TurnState) (moved : Bool) : Type 0 where
  pub read : Option Read
  pub leads : Leads old new []
  pub room : ReadHasRoom read
  pub came : new.line.received ≡ old.line.received ++ octets_read read
  pub went_none : new.line.sent ≡ old.line.sent
  pub calls : new.line.calls ≡ counted old.line.calls (calls_made read)
  pub unfed : length new.machine.unfed ≤ length old.machine.unfed + length (octets_read read)
  pub reads_fed : read ≢ None → old.machine.unfed ≡ []
  pub moved_is : moved ≡ (nat_lt (length old.line.received) (length new.line.received)
      || nat_lt (length new.machine.unfed) (length old.machine.unfed))
  pub nothing_came : moved ≡ false → new.machine.faulty ≡ old.machine.faulty → old.machine.unfed ≡ []
      → (read ≡ Some (record { room = 512; octets = [] })) × (new.machine ≡ old.machine)
  pub feeds : moved ≡ false → old.machine.unfed ≢ [] → old.machine.deframer.next ≢ None
  pub reads : ReadsWhereFed read old.machine.unfed
  pub empty : new.machine.faulty ≡ false
      → new.line.empty_reads ≡ empty_after read old.line.empty_reads
  pub stalled_stays : new.line.stalled_writes ≡ old.line.stalled_writes
  pub fewer : new.machine.deframer.next ≡ None → old.machine.unfed ++ octets_read read ≢ []
      → length new.machine.unfed < length old.machine.unfed + length (octets_read read)
  pub frame_stays : (f : Frame) → old.machine.deframer.next ≡ Some f → new.machine.deframer.next ≡ Some f
  pub stays : new ≡ record old {
    line = new.line;
    machine = record old.machine {
      unfed = new.machine.unfed;
      deframer = new.machine.deframer;
      faulty = new.machine.faulty;
    };
  }

-- ## A request is taken

-- The desk's next request is taken, where those in hand and the outcomes that wait are fewer than 128.
pub record TakesOne (old new : TurnState) (moved : Bool) : Type 0 where
  pub next : Option (Option Request)
  pub acts : List Act
  pub leads : Leads old new acts
  pub adds : (waiting : List Urc) → AddsAll old new waiting 0 acts
  pub moved_is : moved ≡ list_any is_more acts
  pub taken : new.driver.taken ≡ old.driver.taken ++ request_given next
  pub callers : list_all (λ (q : Request). nat_lt q.caller (length old.driver.desk.rings))
      (request_given next) ≡ true
  pub formed : AreFormed (request_given next)
  pub still : moved ≡ false → (acts ≡ []) × (new.machine ≡ old.machine)
  pub no_request : moved ≡ false
      → (next ≡ Some None) ⊎ ((b : Beginning) (past : List Act) → StandingFits b new past
      → length (in_hand past) + length new.machine.unplaced ≡ most_in_hand)
  pub desk_stays : (new.driver.desk ≡ old.driver.desk)
      × ((new.driver.told ≡ old.driver.told) × (new.driver.announced ≡ old.driver.announced))
  pub places_stay : (new.driver.free ≡ old.driver.free) × (new.driver.free_lines ≡ old.driver.free_lines)
  pub backs_stay : (new.driver.told_back ≡ old.driver.told_back)
      × (new.driver.announced_back ≡ old.driver.announced_back)
  pub asks : (b : Beginning) (past : List Act) → StandingFits b new past → next ≡ None
      → length (in_hand past) + length new.machine.unplaced ≡ most_in_hand
  pub found : new.driver.found_none ≡ counted old.driver.found_none (asked_in_vain next)
  pub stays : new ≡ record old {
    driver = new.driver;
    machine = record old.machine {
      core = new.machine.core;
      unplaced = new.machine.unplaced;
      unannounced = new.machine.unannounced;
    };
  }
