-- What the answers of a turn mean (Moved, WriterFull, Waiting, Blocked, Idle), what its faults mean, and
-- what a tick does.
use Rattle.std.specs.Prelude.{◌≡◌, ◌≢◌, ℕ, zero, suc, ◌+◌, ◌<◌, ◌≤◌, ◌==◌, ◌||◌, not, nat_le, nat_lt, ◌⊎◌, Bool, true, false, List, [], ◌∷◌, ◌++◌, length, take, map, flat_map, Option, Some, None, option_to_list}
use Rattle.std.specs.List.{list_all, list_any}
use Rattle.mux_frame.specs.Frames.{Frame}
use Rattle.mux_frame.specs.Reading.{Reads}
use Rattle.mux_station.specs.States.{state_of}
use Rattle.mux_station.specs.Tables.{by_frame, have_room, msc_frame, octets_of, ready}
use Rattle.mux_station.specs.Sending.{queue}
use Rattle.mux_station.specs.declared.role.Role.TheVariants.{Initiator}
use Rattle.mux_station.specs.Opening.{is_open}
use Rattle.serial_line.specs.Counts.{saturated}
use Rattle.at_text.specs.declared.unsolicited.UrcKind.{UrcKind}
use Rattle.modem_desk.specs.declared.request.Request.{Request}
use Rattle.modem_desk.specs.declared.request.Outcome.{Outcome}
use Rattle.modem_desk.specs.declared.request.Urc.{Urc}
use Rattle.modem_history.specs.Limits.{most_in_hand, holding_lines, freeing_lines}
use Rattle.modem_history.specs.Acts.{Act, Told, Heard, Tick, Lost, Held, Freed, Given, after, wire, in_hand}
use Rattle.modem_history.specs.Kinds.{of_kind}
use Rattle.modem_history.specs.Holding.{is_held}
use Rattle.modem_history.specs.Lawful.{Quiet}
use Rattle.modem_history.specs.Wholes.{IsPrefixOf, is_said}
use Rattle.modem_history.specs.Calls.{is_lost}
use Rattle.modem_history.specs.Sessions.{Beginning, SessionView, FitsWith, GoesBy, driving, gots, sents, octets_of_frames, heard_as, caller_outcomes, backlog, backlog_in}

-- ## A turn's calls on the line and on the desk

-- octets were offered to the line, and it took so many of them
pub record Write : Type 0 where
  pub offered : List ℕ
  pub count : ℕ

-- the line was given so much room, and these octets came
pub record Read : Type 0 where
  pub room : ℕ
  pub octets : List ℕ

-- what a turn asked of its line and its desk, and what they answered
pub record Exchange : Type 0 where
  -- the outcomes and lines that still waited once the desk had been offered what waited, and those that it
  -- handed back
  pub still_told : List Outcome
  pub still_heard : List Urc
  pub told_back : List Outcome
  pub heard_back : List Urc
  pub write : Option Write
  pub read : Option Read
  -- what the desk gave where it was asked for a request
  pub next : Option (Option Request)

abbrev pub octets_written : Option Write → List ℕ
octets_written None = []
octets_written (Some w) = take w.count w.offered

abbrev pub octets_read : Option Read → List ℕ
octets_read None = []
octets_read (Some r) = r.octets

abbrev pub request_given : Option (Option Request) → List Request
request_given None = []
request_given (Some q) = option_to_list q

-- a write offers the first of the octets that wait, at least one; the line takes some or none of them
pub record IsOffer (w : Write) (unwritten : List ℕ) : Type 0 where
  pub some : 1 ≤ length w.offered
  pub bound : w.count ≤ length w.offered
  pub first : IsPrefixOf w.offered (take w.count w.offered ++ unwritten)

-- without a write no octets wait
abbrev pub Offers : Option Write → List ℕ → Type 0
Offers None unwritten = unwritten ≡ []
Offers (Some w) unwritten = IsOffer w unwritten

-- no more comes than there is room for
abbrev pub ReadHasRoom : Option Read → Type 0
ReadHasRoom None = Unit {0}
ReadHasRoom (Some r) = length r.octets ≤ r.room

abbrev pub calls_made : {A : Type 0} → Option A → ℕ
calls_made o = length (option_to_list o)

-- a count of calls after so many more, which stops at u64::MAX
abbrev pub counted : ℕ → ℕ → ℕ
counted n zero = n
counted n (suc made) = saturated (n + suc made)

-- the outcomes that the acts told, and the lines that they heard, in order
abbrev pub outcomes_told : List Act → List Outcome
outcomes_told [] = []
outcomes_told (Told o ∷ acts) = o ∷ outcomes_told acts
outcomes_told (_ ∷ acts) = outcomes_told acts

abbrev pub lines_heard : List Act → List Act
lines_heard [] = []
lines_heard (Heard k d line ∷ acts) = Heard k d line ∷ lines_heard acts
lines_heard (_ ∷ acts) = lines_heard acts

-- of each caller and of each kind the desk handed back the first that still waited, and no other: a full ring
-- holds up only its own
pub record HandsBack (t : Exchange) : Type 0 where
  pub outcomes : (c : ℕ) → caller_outcomes c t.told_back ≡ take 1 (caller_outcomes c t.still_told)
  pub lines : (k : UrcKind) → of_kind k t.heard_back ≡ take 1 (of_kind k t.still_heard)

-- what the turn exchanged with its line and its desk: it read only where all octets that had come were fed; it handled
-- one frame at most
pub record Exchanges (old new : SessionView) (t : Exchange) (acts : List Act) : Type 0 where
  pub came : new.line.received ≡ old.line.received ++ octets_read t.read
  pub room : ReadHasRoom t.read
  pub went : new.line.sent ≡ old.line.sent ++ octets_written t.write
  pub calls : new.line.calls ≡ counted old.line.calls (calls_made t.write + calls_made t.read)
  pub taken : new.desk.taken ≡ old.desk.taken ++ request_given t.next
  pub hands_back : HandsBack t
  pub outcomes_wait : new.unplaced ≡ t.still_told ++ outcomes_told acts
  pub lines_wait : map heard_as new.unannounced ≡ map heard_as t.still_heard ++ lines_heard acts
  pub unfed : length new.unfed ≤ length old.unfed + length (octets_read t.read)
  pub reads_fed : t.read ≢ None → old.unfed ≡ []
  pub one_got : length (gots acts) ≤ 1

-- ## Its acts

-- an act of a turn: no tick and no loss of the line; a connection is held where its backlog was 256 or more
-- once what waited was offered to the desk, and freed where it was below 128
abbrev pub may_act : List Urc → Act → Bool
may_act waiting Tick = false
may_act waiting Lost = false
may_act waiting (Held d) = nat_le holding_lines (backlog_in d waiting)
may_act waiting (Freed d) = nat_lt (backlog_in d waiting) freeing_lines
may_act waiting _ = true

abbrev pub is_mark : Act → Bool
is_mark Given = true
is_mark _ = false

-- ## Moved

-- how much there is in all
abbrev pub amount : {A : Type 0} → List (List A) → ℕ
amount xss = length (flat_map (λ xs. xs) xss)

-- the history, the octets received, the octets sent or what the desk was given grew, or the octets read and
-- not yet fed became fewer; a control frame given on doesn't count
abbrev pub has_moved : SessionView → SessionView → List Act → Bool
has_moved old new acts =
    list_any (λ a. not (is_mark a)) acts
    || (nat_lt (length old.line.received) (length new.line.received)
    || (nat_lt (length old.line.sent) (length new.line.sent)
    || (nat_lt (amount old.desk.told) (amount new.desk.told)
    || (nat_lt (amount old.desk.announced) (amount new.desk.announced)
    || nat_lt (length new.unfed) (length old.unfed)))))

-- ## The other answers

pub data TurnAnswer : Type 0 where
  Moved : TurnAnswer
  WriterFull : TurnAnswer
  Waiting : (caller : ℕ) → TurnAnswer
  Blocked : UrcKind → TurnAnswer
  Idle : TurnAnswer

-- the answer is Moved
abbrev pub says_moved : TurnAnswer → Bool
says_moved Moved = true
says_moved _ = false

-- each open connection but 0 whose backlog is 256 or more is held, and none whose backlog is below 128 is
pub record HoldsByBacklog (v : SessionView) (past : List Act) : Type 0 where
  pub many : (d : ℕ) → d < 62 → (d == 0) ≡ false → is_open Initiator d (wire past) ≡ true → holding_lines ≤ backlog d v
      → is_held Initiator d past ≡ true
  pub few : (d : ℕ) → d < 62 → backlog d v < freeing_lines → is_held Initiator d past ≡ false

-- every frame that is read in the octets received since the session began was got
pub record AllAreGot (b : Beginning) (v : SessionView) (past : List Act) : Type 0 where
  pub octets : List ℕ
  pub since : v.line.received ≡ b.line.received ++ octets
  pub rest : List ℕ
  pub reads : Reads b.n1 octets (gots past) rest

-- the line was read in this turn with room for at least one octet, and gave none
pub record ReadsNothing (t : Exchange) : Type 0 where
  pub room : ℕ
  pub some : 1 ≤ room
  pub nothing : t.read ≡ Some (record { room = room; octets = [] })

-- the frames that this one calls for fit into the control queue
abbrev pub has_room_for : Beginning → List Act → Frame → Bool
has_room_for b past f =
    have_room b.n1 (octets_of (queue (wire past)))
    (by_frame Initiator (λ d. state_of Initiator d (wire past)) f)

-- Nothing is left to do but to place outcomes and lines: the history is quiet; the octets sent are all of the
-- frames sent; nothing came, all that came was fed, and of it all was got; no request waits at the desk, or
-- those in hand and the outcomes that wait are 128; each connection is held by its backlog.
pub record IsAtRest (b : Beginning) (v : SessionView) (t : Exchange) (past : List Act) : Type 0 where
  pub quiet : Quiet (driving b) past
  pub sent : v.line.sent ≡ b.line.sent ++ octets_of_frames (sents past)
  pub nothing_came : ReadsNothing t
  pub fed : v.unfed ≡ []
  pub all_got : AllAreGot b v past
  pub no_request : (t.next ≡ Some None) ⊎ (length (in_hand past) + length v.unplaced ≡ most_in_hand)
  pub held : HoldsByBacklog v past

-- no MSC has a place in the control queue: the control frames that were not given on, with one for any
-- connection behind them, exceed 4096 and N1 octets
abbrev pub LacksMscRoom : Beginning → List Act → Type 0
LacksMscRoom b past =
    (d : ℕ) → 4096 + b.n1 < octets_of (queue (wire past) ++ msc_frame Initiator d ready ∷ [])

-- each connection is held by its backlog, or no MSC has a place
abbrev pub HoldsWhereRoom : Beginning → SessionView → List Act → Type 0
HoldsWhereRoom b v past = HoldsByBacklog v past ⊎ LacksMscRoom b past

-- Octets wait; the line was offered some of them in this turn and took none. Nothing came, or octets that came before
-- wait, since a frame is at hand. A frame at hand finds no room for what it calls for. No request waits at the desk, or
-- those in hand and the outcomes that wait are 128. Before a frame went into the output, if one did, each connection
-- was held by its backlog, unless no MSC had a place.
pub record IsWriterFull (b : Beginning) (v : SessionView) (t : Exchange)
    (before past : List Act) : Type 0 where
  pub waits : v.unwritten ≢ []
  pub offered : List ℕ
  pub some : offered ≢ []
  pub took_none : t.write ≡ Some (record { offered = offered; count = 0 })
  pub reads : v.unfed ≡ [] → ReadsNothing t
  pub fed : v.deframer.next ≡ None → v.unfed ≡ []
  pub no_room : (f : Frame) → v.deframer.next ≡ Some f → has_room_for b past f ≡ false
  pub held : HoldsWhereRoom b v before
  pub no_request : (t.next ≡ Some None) ⊎ (length (in_hand past) + length v.unplaced ≡ most_in_hand)

-- No octets wait, and an outcome for this caller does, which the desk handed back in this turn. None waits for a lesser
-- caller. Nothing else is held up by it.
pub record IsWaiting (b : Beginning) (v : SessionView) (t : Exchange) (past : List Act) (c : ℕ) : Type 0 where
  pub written : v.unwritten ≡ []
  pub outcome : Outcome
  pub waits : take 1 (caller_outcomes c v.unplaced) ≡ outcome ∷ []
  pub handed_back : caller_outcomes c t.told_back ≡ outcome ∷ []
  pub least : list_all (λ (o : Outcome). nat_le c o.caller) v.unplaced ≡ true
  pub rest : IsAtRest b v t past

-- No octets and no outcomes wait. The first line that waits is of this kind, and the desk handed it back in this turn.
-- Nothing else is held up by it.
pub record IsBlocked (b : Beginning) (v : SessionView) (t : Exchange) (past : List Act)
    (k : UrcKind) : Type 0 where
  pub written : v.unwritten ≡ []
  pub placed : v.unplaced ≡ []
  pub line : Urc
  pub waits : take 1 v.unannounced ≡ line ∷ []
  pub is_of : line.kind ≡ k
  pub handed_back : of_kind k t.heard_back ≡ line ∷ []
  pub rest : IsAtRest b v t past

-- nothing waits for the line or for a place, and nothing is left to do
pub record IsIdle (b : Beginning) (v : SessionView) (t : Exchange) (past : List Act) : Type 0 where
  pub written : v.unwritten ≡ []
  pub placed : v.unplaced ≡ []
  pub announced : v.unannounced ≡ []
  pub rest : IsAtRest b v t past

-- what an answer says of the session, of the turn's calls and of the history before the turn and after it
abbrev pub Means : Beginning → SessionView → Exchange → (before past : List Act) → TurnAnswer → Type 0
Means b v t before past Moved = Unit {0}
Means b v t before past WriterFull = IsWriterFull b v t before past
Means b v t before past (Waiting c) = IsWaiting b v t past c
Means b v t before past (Blocked k) = IsBlocked b v t past k
Means b v t before past Idle = IsIdle b v t past

-- ## A turn

-- A turn that ends in this answer, after a past, by these acts: Moved is the answer exactly where something
-- moved, no call on the line has failed since the session began, and any other answer means what it says.
pub record IsTurn (b : Beginning) (old new : SessionView) (t : Exchange) (past acts : List Act)
    (says : TurnAnswer) : Type 0 where
  pub exchanges : Exchanges old new t acts
  pub offers : Offers t.write new.unwritten
  pub sound : new.line.failures ≡ b.line.failures
  pub acts_may : list_all (may_act t.still_heard) acts ≡ true
  pub moved : has_moved old new acts ≡ says_moved says
  pub means : Means b new t past (after past acts) says

-- ## Faults

pub data TurnFault : Type 0 where
  NoMemory : TurnFault
  LineFailed : TurnFault
  Failed : TurnFault

-- the line is lost in this turn, since a call on it has failed since the session began: behind the loss there
-- are outcomes alone, no request was taken from the desk, and none is in hand
pub record LosesLine (b : Beginning) (old new : SessionView) (past acts : List Act) : Type 0 where
  pub live : is_lost past ≡ false
  pub gone : is_lost (after past acts) ≡ true
  pub by_fault : b.line.failures < new.line.failures
  pub none_taken : new.desk.taken ≡ old.desk.taken
  pub before : List Act
  pub told : List Outcome
  pub acts_are : acts ≡ before ++ Lost ∷ map Told told
  pub none_in_hand : in_hand (after past acts) ≡ []

-- what waits is placed, and nothing else is done
pub record PlacesAlone (old new : SessionView) (acts : List Act) : Type 0 where
  pub no_acts : acts ≡ []
  pub stays : new ≡ record old {
    desk = record old.desk {
      told = new.desk.told;
      announced = new.desk.announced;
      told_back = new.desk.told_back;
      announced_back = new.desk.announced_back;
    };
    unplaced = new.unplaced;
    unannounced = new.unannounced;
  }

-- the line was lost before: what waits is still placed
pub record HasFailed (old new : SessionView) (past acts : List Act) : Type 0 where
  pub gone : is_lost past ≡ true
  pub places : PlacesAlone old new acts

-- there is no memory: the line isn't lost, and no call on it has failed since the session began
pub record WantsMemory (b : Beginning) (new : SessionView) (past acts : List Act) : Type 0 where
  pub live : is_lost (after past acts) ≡ false
  pub sound : new.line.failures ≡ b.line.failures

abbrev pub FaultMeans : Beginning → SessionView → SessionView → List Act → List Act → TurnFault → Type 0
FaultMeans b old new past acts NoMemory = WantsMemory b new past acts
FaultMeans b old new past acts LineFailed = LosesLine b old new past acts
FaultMeans b old new past acts Failed = HasFailed old new past acts

-- an act of a turn, or a loss of the line
abbrev pub may_fail : List Urc → Act → Bool
may_fail waiting Lost = true
may_fail waiting a = may_act waiting a

-- a turn that ends in this fault
pub record IsFault (b : Beginning) (old new : SessionView) (t : Exchange) (past acts : List Act)
    (says : TurnFault) : Type 0 where
  pub exchanges : Exchanges old new t acts
  pub acts_may : list_all (may_fail t.still_heard) acts ≡ true
  pub means : FaultMeans b old new past acts says

-- ## Ticks

-- a tick: the acts are the tick and what it calls for; line and desk's end stay, and nothing is placed, fed
-- or taken
pub record IsTick (old new : SessionView) (past acts : List Act) : Type 0 where
  pub live : is_lost past ≡ false
  pub more : List Act
  pub acts_are : acts ≡ Tick ∷ more
  pub follow : list_all is_said more ≡ true
  pub line_stays : new.line ≡ old.line
  pub desk_stays : new.desk ≡ old.desk
  pub unfed_stay : new.unfed ≡ old.unfed

-- a tick by some acts, the same whatever the session began with and whatever history it had
pub record GoesTick (old new : SessionView) (core later : Beginning → List Act → Type 0) : Type 0 where
  pub acts : List Act
  pub goes : (b : Beginning) → GoesBy b old new (core b) (later b) acts
  pub tick : (b : Beginning) (past : List Act) → FitsWith b old (core b) past → IsTick old new past acts
