-- What a station's history has to keep: data leaves open connections that aren't stopped, each other frame is
-- called for, and none that is called for is missing (27.010, 5.4).
use Rattle.std.specs.Prelude.{ℕ, ◌≡◌, ◌+◌, ◌==◌, ◌&&◌, ◌||◌, not, nat_le, Bool, true, false, IsTrue, List, [], ◌∷◌, ◌++◌, length, drop, Option, Some, None, if◌then◌else◌, is_none, is_some}
use Rattle.std.specs.Str.{bytes_eq}
use Rattle.std.specs.List.{list_any}
use Rattle.mux_frame.specs.Frames.{Frame}
use Rattle.mux_frame.specs.declared.frame.Kind.TheVariants.{Sabm, Disc, Uih}
use Rattle.mux_station.specs.declared.role.Role.{Role}
use Rattle.mux_station.specs.declared.error.StationError.{StationError}
use Rattle.mux_station.specs.declared.error.StationError.TheVariants.{NotOpen, AlreadyOpen, Busy, ControlChannel, TooLong, NoRoom}
use Rattle.mux_station.specs.Written.{written, is_data_frame}
use Rattle.mux_station.specs.Messages.{Message, message_in, command_of, test, nsc, cld}
use Rattle.mux_station.specs.Acts.{Call, Open, Close, Probe, Stop, Flow, Offer, Act, Called, Got, Sent, Tick, Lost, Given}
use Rattle.mux_station.specs.Opening.{is_open, opens_now}
use Rattle.mux_station.specs.States.{State, is_opened, is_shut, state_of}
use Rattle.mux_station.specs.Stopping.{is_stopped}
use Rattle.mux_station.specs.Offering.{offered, data_out}
use Rattle.mux_station.specs.Tables.{message_frame, msc_frame, ready, held_up, by_frame, by_tick, have_room, octets_of}

-- the setting of a station's history
pub record StationSetting : Type 0 where
  pub role : Role
  pub n1 : ℕ

-- a probe that waits, and how many ticks came since
pub record Waiting : Type 0 where
  pub data_octets : List ℕ
  pub ticks : ℕ

-- what a call sees of the past
pub record StationView : Type 0 where
  pub state : ℕ → State
  -- the octets that wait in the control queue
  pub queued : ℕ
  pub probe : Option Waiting

-- ## Calls

-- the frame that a call asks to be sent
abbrev pub frames_asked : Role → Call → List Frame
frames_asked r (Open d) = written r Sabm d [] ∷ []
frames_asked r (Close d) = written r Disc d [] ∷ []
frames_asked r (Probe octets) = message_frame r test octets ∷ []
frames_asked r Stop = message_frame r cld [] ∷ []
frames_asked r (Flow d go) =
    if d == 0 then message_frame r (if go then 0xa3 else 0x63) [] ∷ []
    else msc_frame r d (if go then ready else held_up) ∷ []
frames_asked r (Offer d octets) = []

-- why a call is refused for the states, each list in its order; how much is offered is not spoken of here
abbrev pub refused_by_state : StationView → Call → Option StationError
refused_by_state v (Open d) =
    if not (d == 0) && not (is_opened (v.state 0)) then Some NotOpen
    else if is_opened (v.state d) then Some AlreadyOpen
    else if not (is_shut (v.state d)) then Some Busy
    else None
refused_by_state v (Close d) =
    if d == 0 then Some ControlChannel
    else if is_shut (v.state d) then Some NotOpen
    else if not (is_opened (v.state d)) then Some Busy
    else None
refused_by_state v (Probe octets) =
    if not (nat_le (length octets) 16) then Some TooLong
    else if not (is_opened (v.state 0)) then Some NotOpen
    else if is_some v.probe then Some Busy
    else None
refused_by_state v Stop = if not (is_opened (v.state 0)) then Some NotOpen else None
refused_by_state v (Flow d go) =
    if not (is_opened (v.state d) && is_opened (v.state 0)) then Some NotOpen else None
refused_by_state v (Offer d octets) =
    if d == 0 then Some ControlChannel
    else if not (is_opened (v.state d)) then Some NotOpen
    else None

-- no place in the control queue for all frames that are called for
abbrev pub without_room : StationSetting → StationView → List Frame → Option StationError
without_room s v fs = if have_room s.n1 v.queued fs then None else Some NoRoom

-- the last refusal of a call: no place in the control queue for the frames that it asks for
abbrev pub if_no_room : StationSetting → StationView → Call → Option StationError
if_no_room s v c = without_room s v (frames_asked s.role c)

abbrev pub or_else : Option StationError → Option StationError → Option StationError
or_else None o = o
or_else (Some e) o = Some e

-- why a call is refused
abbrev pub refused : StationSetting → StationView → Call → Option StationError
refused s v c = or_else (refused_by_state v c) (if_no_room s v c)

-- why a frame that comes is refused
abbrev pub got_refused : StationSetting → StationView → Frame → Option StationError
got_refused s v f = without_room s v (by_frame s.role v.state f)

-- the frames that an act calls for
abbrev pub frames_seeing : StationSetting → StationView → Act → List Frame
frames_seeing s v (Called c) = if is_none (refused s v c) then frames_asked s.role c else []
frames_seeing s v (Got f) = by_frame s.role v.state f
frames_seeing s v Tick = by_tick s.role s.n1 v.state v.queued
frames_seeing s v _ = []

-- ## What a call sees

-- the control frames that were sent and not given on yet
abbrev pub queue : List Act → List Frame
queue [] = []
queue (Sent f ∷ past) = queue past ++ (if is_data_frame f then [] else f ∷ [])
queue (Given ∷ past) = drop 1 (queue past)
queue (Lost ∷ past) = []
queue (_ ∷ past) = queue past

-- the type octet is that of a Test command or response
abbrev pub is_test_or_response : ℕ → Bool
is_test_or_response octet = (octet == test) || (command_of octet == test)

-- an NSC's value is the type of a Test command or response
abbrev pub names_test : List ℕ → Bool
names_test (octet ∷ []) = is_test_or_response octet
names_test _ = false

-- the message is the response to a probe with these octets
abbrev pub brings_probe_back : List ℕ → Option Message → Bool
brings_probe_back octets None = false
brings_probe_back octets (Some m) = (command_of m.octet == test) && bytes_eq m.value octets

-- the message is an NSC that names Test
abbrev pub refuses_probe : Option Message → Bool
refuses_probe None = false
refuses_probe (Some m) = (command_of m.octet == nsc) && names_test m.value

abbrev pub probe_after : StationSetting → (stays : Bool) → Option Waiting → Act → Option Waiting
probe_after s stays None a = None
probe_after s stays (Some w) (Got f) =
    if stays && not (brings_probe_back w.data_octets (message_in f) || refuses_probe (message_in f))
    then Some w else None
probe_after s stays (Some w) Tick = if w.ticks == 3 then None else Some (record w { ticks = w.ticks + 1 })
probe_after s stays (Some w) a = if stays then Some w else None

abbrev pub probe_begun : Option StationError → Act → Option Waiting → Option Waiting
probe_begun None (Called (Probe octets)) o = Some (record { data_octets = octets; ticks = 0 })
probe_begun refusal a o = o

abbrev pub refused_act : StationSetting → StationView → Act → Option StationError
refused_act s v (Called c) = refused s v c
refused_act s v a = None

-- 0 stays open: it is Opened after the act, which didn't open it anew
abbrev pub zero_stays : StationSetting → List Act → Act → Bool
zero_stays s past a = is_opened (state_of s.role 0 (a ∷ past)) && not (opens_now s.role 0 past a)

-- the probe that waits
abbrev pub probe_of : StationSetting → List Act → Option Waiting
probe_of s [] = None
probe_of s (a ∷ past) =
    let before = probe_of s past in
    let v : StationView =
    record { state = λ d. state_of s.role d past; queued = octets_of (queue past); probe = before } in
    probe_begun (refused_act s v a) a (probe_after s (zero_stays s past a) before a)

-- what a call sees of a past
abbrev pub station_view : StationSetting → List Act → StationView
station_view s past =
    record { state = λ d. state_of s.role d past; queued = octets_of (queue past); probe = probe_of s past }

abbrev pub is_loss : Act → Bool
is_loss Lost = true
is_loss _ = false

-- nothing is called for once the line is lost
abbrev pub called_frames : StationSetting → List Act → Act → List Frame
called_frames s past a = if list_any is_loss past then [] else frames_seeing s (station_view s past) a

-- ## The laws

-- what was called for and doesn't stand in the past yet, in order; a loss of the line leaves nothing to be
-- sent
abbrev pub owed_frames : StationSetting → List Act → List Frame
owed_frames s [] = []
owed_frames s (Sent f ∷ past) = if is_data_frame f then owed_frames s past else drop 1 (owed_frames s past)
owed_frames s (Lost ∷ past) = []
owed_frames s (a ∷ past) = owed_frames s past ++ called_frames s past a

-- data leaves an open connection that isn't stopped, in a frame as this role writes it, behind all that is owed; its
-- octets are the next of those offered
pub record StationGated (s : StationSetting) (past : List Act) (f : Frame) : Type 0 where
  pub live : IsTrue (not (list_any is_loss past))
  pub is_open : IsTrue (is_open s.role f.dlci past)
  pub goes : IsTrue (not (is_stopped s.role f.dlci past))
  pub as_written : f ≡ written s.role Uih f.dlci f.info
  pub some : IsTrue (nat_le 1 (length f.info))
  pub fits : IsTrue (nat_le (length f.info) s.n1)
  pub behind : owed_frames s past ≡ []
  pub later : List ℕ
  pub is_offered : offered s.role f.dlci past ≡ data_out s.role f.dlci past ++ f.info ++ later

-- a control frame is the next one owed
pub record Controlled (s : StationSetting) (past : List Act) (f : Frame) : Type 0 where
  pub later : List Frame
  pub is_next : owed_frames s past ≡ f ∷ later

unfoldable pub Sends : StationSetting → List Act → Frame → Bool → Type 0
Sends s past f true = StationGated s past f
Sends s past f false = Controlled s past f

-- each frame may be sent after what went before it
unfoldable pub StationLawful : StationSetting → List Act → Type 0
StationLawful s [] = Unit {0}
StationLawful s (Sent f ∷ past) = Sends s past f (is_data_frame f) × StationLawful s past
StationLawful s (a ∷ past) = StationLawful s past

-- nothing is owed
unfoldable pub StationComplete : StationSetting → List Act → Type 0
StationComplete s past = owed_frames s past ≡ []

-- ## What the laws come to

-- the past after these frames were sent, in their order
abbrev pub sent_after : List Frame → List Act → List Act
sent_after [] past = past
sent_after (f ∷ fs) past = sent_after fs (Sent f ∷ past)

-- the past after an act and the frames that it calls for
abbrev pub after_act : StationSetting → List Act → Act → List Act
after_act s past a = sent_after (called_frames s past a) (a ∷ past)

abbrev pub is_sent : Act → Bool
is_sent (Sent f) = true
is_sent _ = false

-- an act that is followed by all that it calls for keeps a past lawful and complete
pub record AnswersKeep (s : StationSetting) (past : List Act) (a : Act) : Type 0 where
  pub lawful :
      is_sent a ≡ false → StationLawful s past → StationComplete s past → StationLawful s (after_act s past a)
  pub complete :
      is_sent a ≡ false → StationLawful s past → StationComplete s past
      → StationComplete s (after_act s past a)

-- nothing is sent once the line is lost
abbrev pub NoFrameAfterLoss : StationSetting → List Act → Type 0
NoFrameAfterLoss s past = (f : Frame) → list_any is_loss past ≡ true → ¬ StationLawful s (Sent f ∷ past)

-- what was given on since d opened is the beginning of what was offered on it
pub record GivesBeginning (s : StationSetting) (d : ℕ) (past : List Act) : Type 0 where
  pub rest : List ℕ
  pub joins : data_out s.role d past ++ rest ≡ offered s.role d past
