-- What an act calls for: frames, then lines and outcomes, by the tables.
use Rattle.std.specs.Prelude.{ℕ, ◌+◌, ◌==◌, ◌&&◌, ◌||◌, not, nat_le, Bool, true, false, List, [], ◌∷◌, ◌++◌, length, map, Option, Some, None, if◌then◌else◌, filter_map, option_map, is_none}
use Rattle.std.specs.List.{list_any}
use Rattle.std.specs.Str.{bytes_eq}
use Rattle.mux_frame.specs.Frames.{Frame}
use Rattle.mux_frame.specs.declared.frame.Kind.TheVariants.{Sabm, Disc}
use Rattle.mux_station.specs.declared.role.Role.{Role}
use Rattle.mux_station.specs.declared.role.Role.TheVariants.{Initiator}
use Rattle.mux_station.specs.Written.{written, is_data_frame}
use Rattle.mux_station.specs.Messages.{Message, message_in, test, cld, nsc, command_of}
use Rattle.mux_station.specs.States.{State, IsOpening, IsOpened, IsClosing, is_opened, is_shut, is_stopping, state_of, states_then}
use Rattle.mux_station.specs.Tables.{message_frame, ready, held_up, by_frame, by_tick, by_flow, has_room, octets_of}
use Rattle.mux_station.specs.Sending.{queue, names_test}
use Rattle.at_text.specs.declared.unsolicited.UrcKind.{UrcKind}
use Rattle.at_text.specs.declared.unsolicited.UrcKind.TheVariants.{Other}
use Rattle.at_text.specs.declared.answer.AnswerLine.{AnswerLine}
use Rattle.at_text.specs.declared.window.Seen as line_is
use Rattle.at_text.specs.declared.window.Seen.TheVariants.{Echo, Kept, Unsolicited}
use Rattle.at_text.specs.Lines.{lines}
use Rattle.at_text.specs.Dialects.{Dialect, standard}
use Rattle.at_text.specs.Windows.{Mark, Line}
use Rattle.at_text.specs.Seeing.{seen_after}
use Rattle.modem_desk.specs.declared.request.Ask.{Ask}
use Rattle.modem_desk.specs.declared.request.Ask.TheVariants.{OpenChannel, CloseChannel, Command, Probe, Stop}
use Rattle.modem_desk.specs.declared.request.Request.{Request}
use Rattle.modem_desk.specs.declared.request.Answer.{Answer}
use Rattle.modem_desk.specs.declared.request.Answer.TheVariants.{Done, Opened, Shut, ProbeBack, Stopped, NotOpen, AlreadyOpen, Refused, NoAnswer, Closed, ControlChannel, LineLost, Busy}
use Rattle.modem_history.specs.Limits.{most_in_hand}
use Rattle.modem_history.specs.Acts.{Act, Took, Got, Sent, Told, Heard, Tick, Lost, Held, Freed, told, in_hand, without, wire}
use Rattle.modem_history.specs.Information.{command_on}
use Rattle.modem_history.specs.Kinds.{is_listened, standard_kinds}
use Rattle.modem_history.specs.Placing.{marks, run_on}

-- the setting of a history: the role, N1, the codes of the modem, and the kinds that are listened to
pub record Setting : Type 0 where
  pub role : Role
  pub n1 : ℕ
  pub dialect : Dialect
  pub listens : UrcKind → Bool

-- a replay's history: an initiator of a standard modem that listens to every kind of the standards, and to Other
abbrev pub replaying : ℕ → Setting
replaying n1 = record { role = Initiator; n1 = n1; dialect = standard; listens = is_listened standard_kinds }

-- ## Requests

abbrev pub is_loss : Act → Bool
is_loss Lost = true
is_loss _ = false

abbrev pub is_lost : List Act → Bool
is_lost past = list_any is_loss past

abbrev pub asks_probe : Ask → Bool
asks_probe (Probe octets) = true
asks_probe _ = false

abbrev pub probe_waits : List Request → Bool
probe_waits hand = list_any (λ (q : Request). asks_probe q.ask) hand

-- how many ticks came since the request was taken
abbrev pub ticks_since : Request → List Act → ℕ
ticks_since r [] = 0
ticks_since r (Took q ∷ past) =
    if (q.caller == r.caller) && (q.number == r.number) then 0 else ticks_since r past
ticks_since r (Tick ∷ past) = ticks_since r past + 1
ticks_since r (_ ∷ past) = ticks_since r past

-- ## What a call sees of the past

pub record HistoryView : Type 0 where
  pub state : ℕ → State
  pub hand : List Request
  -- the requests in hand to which no outcome is owed
  pub waiting : List Request
  pub lost : Bool
  -- the octets that wait in the control queue
  pub queued : ℕ
  -- how many ticks came since a request was taken
  pub ticks : Request → ℕ
  -- the lines and the commands that are placed on a connection
  pub marks : ℕ → List Mark
  -- what is kept of its unfinished line
  pub run : ℕ → List ℕ

-- what a call sees of a past in which nothing is owed
abbrev pub seen : Setting → List Act → HistoryView
seen s past = record {
  state = λ d. state_of s.role d (wire past);
  hand = in_hand past;
  waiting = in_hand past;
  lost = is_lost past;
  queued = octets_of (queue (wire past));
  ticks = λ r. ticks_since r past;
  marks = λ d. marks s.role d past;
  run = λ d. run_on s.role d past;
}

-- ## Answers at once

-- the frames that a request asks to be sent
abbrev pub asking : Role → Ask → List Frame
asking r (OpenChannel d) = written r Sabm d.number [] ∷ []
asking r (CloseChannel d) = written r Disc d.number [] ∷ []
asking r (Command d line) = []
asking r (Probe octets) = message_frame r test octets ∷ []
asking r Stop = message_frame r cld [] ∷ []

-- each of these frames fits into the control queue
abbrev pub all_have_room : Setting → HistoryView → List Frame → Bool
all_have_room s v [] = true
all_have_room s v (f ∷ fs) = has_room s.n1 v.queued f && all_have_room s v fs

-- the answer that refuses what is asked, if one does, in the order of the table of outcomes
abbrev pub refused_ask : Setting → HistoryView → Ask → Option Answer
refused_ask s v (OpenChannel d) =
    if not (d.number == 0) && not (is_opened (v.state 0)) then Some NotOpen
    else if is_opened (v.state d.number) then Some AlreadyOpen
    else if not (is_shut (v.state d.number) && all_have_room s v (asking s.role (OpenChannel d)))
    then Some Busy
    else None
refused_ask s v (CloseChannel d) =
    if d.number == 0 then Some ControlChannel
    else if is_shut (v.state d.number) then Some NotOpen
    else if not (is_opened (v.state d.number) && all_have_room s v (asking s.role (CloseChannel d)))
    then Some Busy
    else None
refused_ask s v (Command d line) =
    if d.number == 0 then Some ControlChannel
    else if not (is_opened (v.state d.number)) then Some NotOpen
    else None
refused_ask s v (Probe octets) =
    if not (is_opened (v.state 0)) then Some NotOpen
    else if probe_waits v.waiting || not (all_have_room s v (asking s.role (Probe octets))) then Some Busy
    else None
refused_ask s v Stop =
    if not (is_opened (v.state 0)) then Some NotOpen
    else if not (all_have_room s v (asking s.role Stop)) then Some Busy
    else None

abbrev pub at_once : Setting → HistoryView → Request → Option Answer
at_once s v r =
    if v.lost then Some LineLost
    else if nat_le most_in_hand (length (v.hand)) then Some Busy
    else refused_ask s v r.ask

-- ## Frames

-- the frames that an act calls for
abbrev pub frames_by : Setting → HistoryView → Act → List Frame
frames_by s v (Took r) = if is_none (at_once s v r) then asking s.role r.ask else []
frames_by s v (Got f) = by_frame s.role v.state f
frames_by s v Tick = by_tick s.role s.n1 v.state v.queued
frames_by s v (Held d) = by_flow s.role v.state d held_up
frames_by s v (Freed d) = by_flow s.role v.state d ready
frames_by s v _ = []

-- the frames that an act calls for; after a loss none is sent
abbrev pub frames : Setting → HistoryView → Act → List Frame
frames s v a = if v.lost then [] else frames_by s v a

-- ## Answers later

-- why a connection is Shut now: LineLost at a loss; else Closed where 0 was open and isn't now; else NoAnswer at a
-- tick; else `why`
abbrev pub cause : HistoryView → (ℕ → State) → Act → Answer → Answer
cause v now Lost why = LineLost
cause v now Tick why = if is_opened (v.state 0) && not (is_opened (now 0)) then Closed else NoAnswer
cause v now a why = if is_opened (v.state 0) && not (is_opened (now 0)) then Closed else why

-- what a message tells a probe: ProbeBack by its own response, Refused by an NSC that names Test
abbrev pub probe_answer : List ℕ → Option Message → Option Answer
probe_answer octets None = None
probe_answer octets (Some m) =
    if (command_of m.octet == test) && bytes_eq m.value octets then Some ProbeBack
    else if (command_of m.octet == nsc) && names_test m.value then Some Refused
    else None

abbrev pub probe_later : Request → List ℕ → HistoryView → Act → Option Answer
probe_later r octets v (Got f) = probe_answer octets (message_in f)
probe_later r octets v Tick = if v.ticks r == 3 then Some NoAnswer else None
probe_later r octets v _ = None

abbrev pub open_later : State → Answer → Option Answer
open_later IsOpened why = Some Opened
open_later (IsOpening n) why = None
open_later _ why = Some why

abbrev pub close_later : State → Answer → Option Answer
close_later (IsClosing n) why = None
close_later _ why = Some why

-- how a stop has ended
abbrev pub stop_ended : Act → Answer
stop_ended Lost = LineLost
stop_ended Tick = NoAnswer
stop_ended _ = Stopped

-- what a request that waits is told, by the states before the call and now
abbrev pub later : HistoryView → (ℕ → State) → Act → Request → Ask → Option Answer
later v now a r (OpenChannel d) = open_later (now d.number) (cause v now a Refused)
later v now a r (CloseChannel d) = close_later (now d.number) (cause v now a Shut)
later v now a r (Command d line) = if is_opened (now d.number) then None else Some (cause v now a Closed)
later v now a r (Probe octets) =
    if is_opened (now 0) then probe_later r octets v a else Some (cause v now a Closed)
later v now a r Stop = if is_stopping (now 0) then None else Some (stop_ended a)

abbrev pub told_later : HistoryView → (ℕ → State) → Act → Request → Option Act
told_later v now a r = option_map (told r) (later v now a r r.ask)

abbrev pub tolds : HistoryView → (ℕ → State) → Act → List Act
tolds v now a = filter_map (told_later v now a) v.waiting

-- ## Lines

-- the request whose command is under way on d: the first that waits
abbrev pub first_on : ℕ → List Request → Option Request
first_on d [] = None
first_on d (r ∷ rs) = if command_on d r.ask then Some r else first_on d rs

abbrev pub done : Option Request → List AnswerLine → List Act
done None ls = []
done (Some r) ls = told r (Done ls) ∷ []

abbrev pub heard : Setting → ℕ → UrcKind → List ℕ → List Act
heard s d kind line = if s.listens kind then Heard kind d line ∷ [] else []

-- what a line calls for, by what it was seen as
abbrev pub by_seen : Setting → ℕ → Option Request → List ℕ → line_is.Seen → List Act
by_seen s d owner line Echo = []
by_seen s d owner line Kept = []
by_seen s d owner line (line_is.TheVariants.Done ls) = done owner ls
by_seen s d owner line (Unsolicited kind) = heard s d kind line
by_seen s d owner line line_is.TheVariants.Other = heard s d Other line

-- each line is read by what is placed before it
abbrev pub by_lines : Setting → ℕ → Option Request → List Mark → List (List ℕ) → List Act
by_lines s d owner ms [] = []
by_lines s d owner ms (line ∷ rest) =
    by_seen s d owner line (seen_after s.dialect ms line) ++ by_lines s d owner (ms ++ Line line ∷ []) rest

abbrev pub lines_said : Setting → HistoryView → Act → List Act
lines_said s v (Got f) =
    if is_opened (v.state f.dlci) && is_data_frame f
    then by_lines s f.dlci (first_on f.dlci v.waiting) (v.marks f.dlci) (lines (v.run f.dlci ++ f.info))
    else []
lines_said s v _ = []

-- ## The whole call

abbrev pub said_of : Request → Option Answer → List Act
said_of r None = []
said_of r (Some answer) = told r answer ∷ []

abbrev pub said_at_once : Setting → HistoryView → Act → List Act
said_at_once s v (Took r) = said_of r (at_once s v r)
said_at_once s v _ = []

-- the states after the acts
abbrev pub states_now : Setting → HistoryView → List Act → ℕ → State
states_now s v acts d = (states_then s.role d (record { zero = v.state 0; own = v.state d }) (wire acts)).own

-- what an act calls for, in order: frames, then lines and outcomes
abbrev pub calls_seeing : Setting → HistoryView → Act → List Act
calls_seeing s v a =
    let sent = map Sent (frames s v a) in
    sent ++ (said_at_once s v a ++ (lines_said s v a ++ tolds v (states_now s v (a ∷ sent)) a))

abbrev pub calls : Setting → List Act → Act → List Act
calls s past a = calls_seeing s (seen s past) a

-- ## While something is owed

-- the requests without those to which an outcome is owed
abbrev pub unanswered : List Act → List Request → List Request
unanswered [] hand = hand
unanswered (Told o ∷ owing) hand = without o (unanswered owing hand)
unanswered (_ ∷ owing) hand = unanswered owing hand

-- what a call sees of a past while this is owed
abbrev pub seen_behind : Setting → List Act → (owing : List Act) → HistoryView
seen_behind s past owing = record (seen s past) { waiting = unanswered owing (in_hand past) }

-- what an act calls for while this is owed: a request to which an outcome is owed is told no other
abbrev pub calls_behind : Setting → List Act → (owing : List Act) → Act → List Act
calls_behind s past owing a = calls_seeing s (seen_behind s past owing) a
