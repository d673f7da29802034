-- A driver that asks for 0 once sends no control command behind a CLD or the response to one.
use Rattle.std.specs.Prelude.{◌≡◌, zero, suc, ℕ, ◌+◌, ◌==◌, ◌≤◌, ◌&&◌, ◌||◌, not, nat_le, Bool, true, false, List, [], ◌∷◌, ◌++◌, drop, length, Option, Some, None, refl, is_none, if◌then◌else◌}
use Rattle.std.specs.List.{list_any}
use Rattle.std.proofs.Common.{ap, arith, sym, ◌∙◌, subst, eqb-true}
use Rattle.std.proofs.lemmas.Bool.{or_left, or_right}
use Rattle.mux_frame.specs.Frames.{Frame}
use Rattle.mux_frame.specs.declared.frame.Kind.{Kind}
use Rattle.mux_frame.specs.declared.frame.Kind.TheVariants.{Sabm, Ua, Dm, Disc, Uih}
use Rattle.mux_capture.specs.declared.packet.Stamp.{Stamp}
use Rattle.mux_station.specs.declared.role.Role.{Role}
use Rattle.mux_station.specs.declared.role.Role.TheVariants.{Initiator}
use Rattle.mux_station.specs.Acts as station
use Rattle.mux_station.specs.Messages.{Message, brings_command, brings_response, cld, is_command, message_in, nsc, response_of}
use Rattle.mux_station.specs.Opening.{ends, is_mode_frame_on}
use Rattle.mux_station.proofs.states.OpeningSteps.{is_open_after}
use Rattle.mux_station.specs.States.{State, IsShut, IsOpening, IsOpened, IsClosing, IsStopping, is_opened}
use Rattle.mux_station.specs.Tables.{by_flow, by_frame, by_message, by_table, held_up, is_opening, is_supported, message_frame, msc_frame, ready, response_to, ua_or_dm}
use Rattle.mux_station.specs.Written.{is_data_frame, is_kind, is_on}
use Rattle.modem_desk.specs.declared.request.Ask.{Ask}
use Rattle.modem_desk.specs.declared.request.Ask.TheVariants.{OpenChannel, CloseChannel, Command, Probe, Stop}
use Rattle.modem_desk.specs.declared.request.Answer.{Answer}
use Rattle.modem_desk.specs.declared.request.Answer.TheVariants.{Busy, LineLost}
use Rattle.modem_desk.specs.declared.request.Request.{Request}
use Rattle.modem_history.specs.Acts as driver
use Rattle.modem_history.specs.Acts.{wire}
use Rattle.modem_history.specs.Calls.{HistoryView, Setting, all_have_room, asking, at_once, calls_behind, frames_by, probe_waits, refused_ask, seen_behind}
use Rattle.modem_history.specs.Lawful.{IsNext, Lawful, When, owed, owes_frame, unsent}
use Rattle.modem_history.specs.TwoEnds.{frames_sent}
use Rattle.modem_show.specs.Asking.{message_asks}
use Rattle.show_laws.specs.Lines.{AtDriver, AtModem, LineAct, StopsAsking, closes, driver_past, modem_past}
use Rattle.show_laws.proofs.answered.EnoughCalled.{not_command}
use Rattle.show_laws.proofs.asks.AnswersCalled.{AnyProbe, IsRead, as_it_is, data_no_message, is_read, unread}
use Rattle.show_laws.proofs.asks.NoneUnasked.{any_probes}
use Rattle.show_laws.proofs.counts.ManyFrames.{few_if, many, many_fewer, many_none, none_one, unit}
use Rattle.show_laws.proofs.counts.BalancedTables.{is_command_octet, tick_none}
use Rattle.show_laws.proofs.counts.DriverCounts.{called, driver_sends, dropped, frames_in, sends, sends_both, unsent_none}
use Rattle.show_laws.proofs.lines.CapturedFrames.{both_ways, came_few}
use Rattle.show_laws.proofs.openings.ClosersBehindSabm.{unclosed_yet}
use Rattle.show_laws.proofs.openings.DriverFollows.{sent_closed}
use Rattle.show_laws.proofs.openings.DriverOpen.{IsOnceLine, ends_by, follows, once_line_before}
use Rattle.show_laws.proofs.openings.ModemCloses.{cld_behind, clds_closed}
use Rattle.show_laws.proofs.openings.OpenBelowZero.{below, first_owes, many_or, open_below, open_not_refused}
use Rattle.show_laws.proofs.openings.QuietFrames.{asked_at, open_at, zero_at}
use Rattle.show_laws.proofs.openings.ResponderCalls.{down_by_cld, each_frame}
use Rattle.show_laws.proofs.stops.StopsBehindSabm.{opened_state, opening_state}
use Rattle.show_laws.proofs.talks.EndedLines.{driver_stays}

-- a control command that asks
abbrev pub commands : Frame → Bool
commands f = message_asks (message_in f)

-- ## What calls for none

read_quiet : (octet : ℕ) (value : List ℕ) (o : Option Message) → IsRead octet value o → is_command_octet octet ≡ false → message_asks o ≡ false
read_quiet octet value _ as_it_is h = ap (λ (b : Bool). b && not (octet == nsc)) h
read_quiet octet value _ unread h = refl

frame_quiet : (r : Role) (octet : ℕ) (value : List ℕ) → is_command_octet octet ≡ false → commands (message_frame r octet value) ≡ false
frame_quiet r octet value h = read_quiet octet value (message_in (message_frame r octet value)) (is_read r octet value) h

responds_quiet : (r : Role) (m : Message) (b c : Bool) → is_supported m.octet ≡ b
    → many commands (if b then message_frame r (response_of m.octet) m.value ∷ [] else if c then message_frame r (response_of nsc) (m.octet ∷ []) ∷ [] else []) ≤ 0
responds_quiet r m true c s = none_one commands (message_frame r (response_of m.octet) m.value) (frame_quiet r (response_of m.octet) m.value (not_command m.octet s))
responds_quiet r m false true s = none_one commands (message_frame r (response_of nsc) (m.octet ∷ [])) (frame_quiet r (response_of nsc) (m.octet ∷ []) refl)
responds_quiet r m false false s = omega arith

response_quiet : (r : Role) (o : Option Message) → many commands (response_to r o) ≤ 0
response_quiet r None = omega arith
response_quiet r (Some m) = responds_quiet r m (is_supported m.octet) (is_command m && not (m.octet == nsc)) refl

-- a message that comes calls for no control command that asks
pub message_asks_none : (r : Role) (s : State) (f : Frame) → many commands (by_message r s f) ≤ 0
message_asks_none r IsOpened f = response_quiet r (message_in f)
message_asks_none r (IsStopping n) f = few_if commands 0 (brings_command cld f) (response_to r (message_in f)) [] (response_quiet r (message_in f)) (omega arith)
message_asks_none r IsShut f = omega arith
message_asks_none r (IsOpening n) f = omega arith
message_asks_none r (IsClosing n) f = omega arith

-- nor is a UA or DM one
pub mode_asks_none : (r : Role) (d : ℕ) (b : Bool) → many commands (ua_or_dm r d b ∷ []) ≤ 0
mode_asks_none r d true = omega arith
mode_asks_none r d false = omega arith

table_quiet : (d : ℕ) (channel own : State) (k : Kind) → ((d == 0) ≡ false → is_opening own ≡ false) → many commands (by_table Initiator d channel own k) ≤ 0
table_quiet d channel own Ua h = by_open (is_opening own) (d == 0) refl h
  where
    by_open : (o z : Bool) → is_opening own ≡ o → (z ≡ false → is_opening own ≡ false) → many commands (if o then (if z then [] else msc_frame Initiator d ready ∷ []) else []) ≤ 0
    by_open false z e k = omega arith
    by_open true true e k = omega arith
    by_open true false e k = let t : true ≡ false = sym e ∙ k refl in cc
table_quiet d channel own Sabm h = mode_asks_none Initiator d false
table_quiet d channel own Disc h = mode_asks_none Initiator d (is_opened own)
table_quiet d channel own Dm h = omega arith
table_quiet d channel own Uih h = omega arith

by_frame_quiet : (r : Role) (state : ℕ → State) (f : Frame) → r ≡ Initiator → ((f.dlci == 0) ≡ false → is_opening (state f.dlci) ≡ false) → many commands (by_frame r state f) ≤ 0
by_frame_quiet r state f is h =
    subst (λ (q : Role). many commands (by_frame q state f) ≤ 0) (sym is)
    (few_if commands 0 (is_on Uih 0 f) (by_message Initiator (state 0) f) (by_table Initiator f.dlci (state 0) (state f.dlci) f.kind) (message_asks_none Initiator (state 0) f) (table_quiet f.dlci (state 0) (state f.dlci) f.kind h))

-- while 0 isn't Opened a request calls for none
pub asked_quiet : (s : Setting) (v : HistoryView) (q : Request) (b : Bool) → is_none (at_once s v q) ≡ b → (ask : Ask) → q.ask ≡ ask → is_opened (v.state 0) ≡ false → many commands (if b then asking s.role ask else []) ≤ 0
asked_quiet s v q false e ask is shut = omega arith
asked_quiet s v q true e (OpenChannel c) is shut = omega arith
asked_quiet s v q true e (CloseChannel c) is shut = omega arith
asked_quiet s v q true e (Command c line) is shut = omega arith
asked_quiet s v q true e (Probe octets) is shut =
    let rest : Option Answer = if probe_waits v.waiting || not (all_have_room s v (asking s.role (Probe octets))) then Some Busy else None in
    let none : is_none (if v.lost then Some LineLost else (if nat_le 128 (length v.hand) then Some Busy else refused_ask s v (Probe octets))) ≡ true =
    sym (ap (λ (x : Ask). is_none (if v.lost then Some LineLost else (if nat_le 128 (length v.hand) then Some Busy else refused_ask s v x))) is) ∙ e in
    let passed = open_not_refused v.lost (nat_le 128 (length v.hand)) (not (is_opened (v.state 0))) rest none in
    let t : true ≡ false = sym (ap not shut) ∙ passed in cc
asked_quiet s v q true e Stop is shut =
    let rest : Option Answer = if not (all_have_room s v (asking s.role Stop)) then Some Busy else None in
    let none : is_none (if v.lost then Some LineLost else (if nat_le 128 (length v.hand) then Some Busy else refused_ask s v Stop)) ≡ true =
    sym (ap (λ (x : Ask). is_none (if v.lost then Some LineLost else (if nat_le 128 (length v.hand) then Some Busy else refused_ask s v x))) is) ∙ e in
    let passed = open_not_refused v.lost (nat_le 128 (length v.hand)) (not (is_opened (v.state 0))) rest none in
    let t : true ≡ false = sym (ap not shut) ∙ passed in cc

-- ## One frame at once

one_if : (b : Bool) (f : Frame) → many each_frame (if b then f ∷ [] else []) ≤ 1
one_if true f = omega arith
one_if false f = omega arith

response_alone : (r : Role) (o : Option Message) → many each_frame (response_to r o) ≤ 1
response_alone r None = omega arith
response_alone r (Some m) =
    few_if each_frame 1 (is_supported m.octet) (message_frame r (response_of m.octet) m.value ∷ []) (if is_command m && not (m.octet == nsc) then message_frame r (response_of nsc) (m.octet ∷ []) ∷ [] else [])
    (omega arith) (one_if (is_command m && not (m.octet == nsc)) (message_frame r (response_of nsc) (m.octet ∷ [])))

-- a message calls for one frame at most
pub message_alone : (r : Role) (s : State) (f : Frame) → many each_frame (by_message r s f) ≤ 1
message_alone r IsOpened f = response_alone r (message_in f)
message_alone r (IsStopping n) f = few_if each_frame 1 (brings_command cld f) (response_to r (message_in f)) [] (response_alone r (message_in f)) (omega arith)
message_alone r IsShut f = omega arith
message_alone r (IsOpening n) f = omega arith
message_alone r (IsClosing n) f = omega arith

table_alone : (d : ℕ) (channel own : State) (k : Kind) → many each_frame (by_table Initiator d channel own k) ≤ 1
table_alone d channel own Ua = by_open (is_opening own) (d == 0)
  where
    by_open : (o z : Bool) → many each_frame (if o then (if z then [] else msc_frame Initiator d ready ∷ []) else []) ≤ 1
    by_open false z = omega arith
    by_open true true = omega arith
    by_open true false = omega arith
table_alone d channel own Sabm = omega arith
table_alone d channel own Disc = omega arith
table_alone d channel own Dm = omega arith
table_alone d channel own Uih = omega arith

by_frame_alone : (r : Role) (state : ℕ → State) (f : Frame) → r ≡ Initiator → many each_frame (by_frame r state f) ≤ 1
by_frame_alone r state f is =
    subst (λ (q : Role). many each_frame (by_frame q state f) ≤ 1) (sym is)
    (few_if each_frame 1 (is_on Uih 0 f) (by_message Initiator (state 0) f) (by_table Initiator f.dlci (state 0) (state f.dlci) f.kind) (message_alone Initiator (state 0) f) (table_alone f.dlci (state 0) (state f.dlci) f.kind))

asked_alone : (r : Role) (ask : Ask) (b : Bool) → many each_frame (if b then asking r ask else []) ≤ 1
asked_alone r ask false = omega arith
asked_alone r (OpenChannel c) true = omega arith
asked_alone r (CloseChannel c) true = omega arith
asked_alone r (Command c line) true = omega arith
asked_alone r (Probe octets) true = omega arith
asked_alone r Stop true = omega arith

-- ## What the driver has sent

-- a CLD or its response was sent behind the SABM
pub sabm_before : (s : Setting) (n1 : ℕ) (line : List LineAct) → IsOnceLine s n1 line → 1 ≤ many closes (frames_sent (wire (driver_past line))) → 1 ≤ many (is_on Sabm 0) (frames_sent (wire (driver_past line)))
sabm_before s n1 line h some = by_count (many (is_on Sabm 0) sent) refl
  where
    sent : List Frame
    sent = frames_sent (wire (driver_past line))

    by_count : (n : ℕ) → many (is_on Sabm 0) (frames_sent (wire (driver_past line))) ≡ n → 1 ≤ n
    by_count (suc n) e = omega arith
    by_count zero e =
        let ways = both_ways line h.lawful.one_line in
        let parts = many_or (brings_command cld) (brings_response cld) (frames_sent (wire (driver_past line))) in
        let clds = clds_closed (frames_sent (wire (driver_past line))) in
        let own = unclosed_yet s n1 0 line h (omega (arith, e)) in
        let responses = driver_sends AnyProbe s (brings_response cld) (brings_command cld) (down_by_cld s.n1 s.role) (driver_past line) h.lawful.driver_lawful (any_probes (driver_past line)) in
        let came = came_few (brings_command cld) (modem_past line) (wire (driver_past line)) ways.at_driver in
        let got = came_few (is_on Sabm 0) (wire (driver_past line)) (modem_past line) ways.at_modem in
        let none = cld_behind n1 (modem_past line) h.lawful.modem_lawful (omega (arith, e, got)) in
        absurd (omega (arith, some, parts, clds, own, responses, came, none))

record Stops (s : Setting) (past : List driver.Act) : Type 0 where
  so_far : StopsAsking (frames_sent (wire past))
  shut : 1 ≤ many closes (frames_sent (wire past)) → (open_at 0 (wire past) ≡ false) × (asked_at 0 (wire past) ≡ false)
  none : 1 ≤ many closes (frames_sent (wire past)) → sends commands (owed s past) ≤ 0
  alone : 1 ≤ sends closes (owed s past) → sends each_frame (owed s past) ≤ 1

-- ## While 0 isn't open

below_shut : (s : Setting) (d : ℕ) (past : List driver.Act) → s.role ≡ Initiator → Lawful s past → open_at 0 (wire past) ≡ false → open_at d (wire past) ≡ false
below_shut s d past is l shut = by_place (d == 0) refl
  where
    by_open : (b : Bool) → open_at d (wire past) ≡ b → (d == 0) ≡ false → b ≡ false
    by_open false o apart = refl
    by_open true o apart = let t : true ≡ false = sym (open_below s d past is apart l o) ∙ shut in cc

    by_place : (b : Bool) → (d == 0) ≡ b → open_at d (wire past) ≡ false
    by_place true e = ap (λ n. open_at n (wire past)) (eqb-true d 0 e) ∙ shut
    by_place false e = by_open (open_at d (wire past)) refl e

below_unasked : (s : Setting) (d : ℕ) (past : List driver.Act) → s.role ≡ Initiator → Lawful s past → open_at 0 (wire past) ≡ false → (d == 0) ≡ false → asked_at d (wire past) ≡ false
below_unasked s d past is l shut apart = by_asked (asked_at d (wire past)) refl
  where
    by_asked : (b : Bool) → asked_at d (wire past) ≡ b → b ≡ false
    by_asked false a = refl
    by_asked true a =
        let z = (below s d past is apart l).up (or_right (open_at d (wire past)) (asked_at d (wire past)) a) in
        let t : true ≡ false = sym z ∙ shut in cc

-- ## One act

more_quiet : (s : Setting) (past : List driver.Act) (a : driver.Act) → owes_frame (owed s past) ≡ false → many commands (frames_by s (seen_behind s past (owed s past)) a) ≤ 0 → sends commands (owed s past ++ calls_behind s past (owed s past) a) ≤ 0
more_quiet s past a prompt none = let few = first_owes s past a commands prompt in omega (arith, few, none)

more_alone : (s : Setting) (past : List driver.Act) (a : driver.Act) → owes_frame (owed s past) ≡ false → many each_frame (frames_by s (seen_behind s past (owed s past)) a) ≤ 1 → sends each_frame (owed s past ++ calls_behind s past (owed s past) a) ≤ 1
more_alone s past a prompt one = let few = first_owes s past a each_frame prompt in omega (arith, few, one)

down_shuts : (f : Frame) (p : List station.Act) → brings_command cld f ≡ true → is_on Sabm 0 f ≡ false → (open_at 0 (station.Sent f ∷ p) ≡ false) × (asked_at 0 (station.Sent f ∷ p) ≡ false)
down_shuts f p down sabm =
    let e : ends (zero_at 0 p) 0 (station.Sent f) ≡ true = or_left (is_on Disc 0 f || brings_command cld f) false (or_right (is_on Disc 0 f) (brings_command cld f) down) in
    (is_open_after Initiator 0 p (station.Sent f) ∙ off (open_at 0 p) (ends (zero_at 0 p) 0 (station.Sent f)) e, unasked (is_on Sabm 0 f) (asked_at 0 p) (is_mode_frame_on 0 f) (ends (zero_at 0 p) 0 (station.Sent f)) sabm e)
  where
    off : (o e : Bool) → e ≡ true → (o && not e) ≡ false
    off true true h = refl
    off true false h = cc
    off false e h = refl

    unasked : (x a m e : Bool) → x ≡ false → e ≡ true → (x || (a && not (m || e))) ≡ false
    unasked true a m e g h = cc
    unasked false false m e g h = refl
    unasked false true true e g h = refl
    unasked false true false true g h = refl
    unasked false true false false g h = cc

no_sabm : (f : Frame) → closes f ≡ true → is_on Sabm 0 f ≡ false
no_sabm f h = by_kind f.kind (f.dlci == 0) _ _ h
  where
    by_kind : (k : Kind) (x c d : Bool) → (((is_kind k Uih && x) && c) || ((is_kind k Uih && x) && d)) ≡ true → (is_kind k Sabm && x) ≡ false
    by_kind Uih x c d h = refl
    by_kind Ua x c d h = refl
    by_kind Dm x c d h = refl
    by_kind Disc x c d h = refl
    by_kind Sabm x c d h = cc

sent_data : (s : Setting) (past : List driver.Act) (f : Frame) → is_data_frame f ≡ true → (1 ≤ many closes (frames_sent (wire past)) → (open_at 0 (wire (driver.Sent f ∷ past)) ≡ false) × (asked_at 0 (wire (driver.Sent f ∷ past)) ≡ false)) → Stops s past → Stops s (driver.Sent f ∷ past)
sent_data s past f is stays h =
    let plain = ap message_asks (data_no_message f is) in
    let bare : closes f ≡ false = no_message (message_in f) refl (data_no_message f is) in
    let u : unit (closes f) ≡ 0 = ap unit bare in
    let same : owed s (driver.Sent f ∷ past) ≡ owed s past = ap (λ (b : Bool). if b then owed s past else drop 1 (owed s past)) is in
    record {
      so_far = (λ m. let t : true ≡ false = sym m ∙ plain in cc, h.so_far);
      shut = λ some. stays (omega (arith, some, u));
      none = λ some. let e = ap (sends commands) same in let k = h.none (omega (arith, some, u)) in omega (arith, e, k);
      alone = λ some. let e = ap (sends closes) same in let g = ap (sends each_frame) same in let k = h.alone (omega (arith, some, e)) in omega (arith, g, k);
    }
  where
    off_zero : (k z c d : Bool) → (k && not z) ≡ true → (((k && z) && c) || ((k && z) && d)) ≡ false
    off_zero true true c d h = cc
    off_zero true false c d h = refl
    off_zero false z c d h = refl

    no_message : (o : Option Message) → message_in f ≡ o → o ≡ None → closes f ≡ false
    no_message o e k = off_zero (is_kind f.kind Uih) (f.dlci == 0) _ _ is

sent_control : (s : Setting) (n1 : ℕ) (stamps : ℕ → Stamp) (line : List LineAct) (f : Frame) → IsOnceLine s n1 (AtDriver (driver.Sent f) ∷ line) → is_data_frame f ≡ false → IsNext (owed s (driver_past line)) (driver.Sent f)
    → (1 ≤ many closes (frames_sent (wire (driver_past line))) → (open_at 0 (wire (driver.Sent f ∷ driver_past line)) ≡ false) × (asked_at 0 (wire (driver.Sent f ∷ driver_past line)) ≡ false))
    → Stops s (driver_past line) → Stops s (driver.Sent f ∷ driver_past line)
sent_control s n1 stamps line f h is n stays k =
    let past = driver_past line in
    let same : owed s (driver.Sent f ∷ past) ≡ n.later = ap (λ (b : Bool). if b then owed s past else drop 1 (owed s past)) is ∙ ap (λ (xs : List driver.Act). drop 1 xs) n.is_next in
    let first : sends commands (owed s past) ≡ unit (commands f) + sends commands n.later = ap (sends commands) n.is_next in
    let all : sends each_frame (owed s past) ≡ 1 + sends each_frame n.later = ap (sends each_frame) n.is_next in
    let some_close : sends closes (owed s past) ≡ unit (closes f) + sends closes n.later = ap (sends closes) n.is_next in
    let left : sends commands (owed s (driver.Sent f ∷ past)) ≡ sends commands n.later = ap (sends commands) same in
    let left_every : sends each_frame (owed s (driver.Sent f ∷ past)) ≡ sends each_frame n.later = ap (sends each_frame) same in
    let left_closes : sends closes (owed s (driver.Sent f ∷ past)) ≡ sends closes n.later = ap (sends closes) same in
    record {
      so_far = (λ m. none_before (commands f) refl m (omega (arith, first)), k.so_far);
      shut = λ some. by_closes (closes f) refl some;
      none = λ some. now_none (closes f) refl some (omega (arith, first, left)) (λ one. omega (arith, one, all, left_every)) left;
      alone = λ some. let one = k.alone (omega (arith, some, some_close, left_closes)) in omega (arith, one, all, left_every);
    }
  where
    none_before : (b : Bool) → commands f ≡ b → b ≡ true → unit (commands f) ≤ sends commands (owed s (driver_past line)) → list_any closes (frames_sent (wire (driver_past line))) ≡ false
    none_before false e m few = cc
    none_before true e m few =
        let u : unit (commands f) ≡ 1 = ap unit e in
        many_none closes (frames_sent (wire (driver_past line))) (none_by (many closes (frames_sent (wire (driver_past line)))) (λ some. let q = k.none some in omega (arith, u, few, q)))
      where
        none_by : (n : ℕ) → (1 ≤ n → 1 ≤ 0) → n ≤ 0
        none_by zero g = omega arith
        none_by (suc n) g = let x = g (omega arith) in absurd (omega (arith, x))

    response_shuts : brings_response cld f ≡ true → (open_at 0 (wire (driver_past line)) ≡ false) × (asked_at 0 (wire (driver_past line)) ≡ false)
    response_shuts r =
        let ending : ends_by 0 f ≡ true = or_right _ (brings_response cld f) r in
        let u : unit (ends_by 0 f) ≡ 1 = ap unit ending in
        let e : sends (ends_by 0) (owed s (driver_past line)) ≡ unit (ends_by 0 f) + sends (ends_by 0) n.later = ap (sends (ends_by 0)) n.is_next in
        (follows s n1 0 stamps line (once_line_before s n1 (AtDriver (driver.Sent f)) line h)).owes (omega (arith, u, e))

    by_closes : (b : Bool) → closes f ≡ b → 1 ≤ unit b + many closes (frames_sent (wire (driver_past line))) → (open_at 0 (wire (driver.Sent f ∷ driver_past line)) ≡ false) × (asked_at 0 (wire (driver.Sent f ∷ driver_past line)) ≡ false)
    by_closes false e some = stays (omega (arith, some))
    by_closes true e some =
        or_split (brings_command cld f) (brings_response cld f) e
        (λ c. down_shuts f (wire (driver_past line)) c (no_sabm f e))
        (λ r. let q = response_shuts r in sent_closed 0 f (wire (driver_past line)) q.0 q.1 (no_sabm f e))
      where
        or_split : {P : Type 0} → (x y : Bool) → (x || y) ≡ true → (x ≡ true → P) → (y ≡ true → P) → P
        or_split true y h g k = g refl
        or_split false y h g k = k h

    now_none : (b : Bool) → closes f ≡ b → 1 ≤ unit b + many closes (frames_sent (wire (driver_past line))) → sends commands (owed s (driver.Sent f ∷ driver_past line)) ≤ sends commands (owed s (driver_past line))
        → (sends each_frame (owed s (driver_past line)) ≤ 1 → sends each_frame (owed s (driver.Sent f ∷ driver_past line)) ≤ 0) → sends commands (owed s (driver.Sent f ∷ driver_past line)) ≡ sends commands n.later → sends commands (owed s (driver.Sent f ∷ driver_past line)) ≤ 0
    now_none false e some fewer last same = let q = k.none (omega (arith, some)) in omega (arith, q, fewer)
    now_none true e some fewer last same =
        let u : unit (closes f) ≡ 1 = ap unit e in
        let c : sends closes (owed s (driver_past line)) ≡ unit (closes f) + sends closes n.later = ap (sends closes) n.is_next in
        let one = k.alone (omega (arith, u, c)) in
        let none = last one in
        let fewer2 = many_fewer commands each_frame (frames_in (owed s (driver.Sent f ∷ driver_past line))) (λ g e. refl) in
        omega (arith, none, fewer2)

-- ## The whole line

sent_stops : (s : Setting) (n1 : ℕ) (stamps : ℕ → Stamp) (line : List LineAct) (f : Frame) → IsOnceLine s n1 (AtDriver (driver.Sent f) ∷ line) → (b : Bool) → is_data_frame f ≡ b → When (not b) (IsNext (owed s (driver_past line)) (driver.Sent f))
    → (1 ≤ many closes (frames_sent (wire (driver_past line))) → (open_at 0 (wire (driver.Sent f ∷ driver_past line)) ≡ false) × (asked_at 0 (wire (driver.Sent f ∷ driver_past line)) ≡ false))
    → Stops s (driver_past line) → Stops s (driver.Sent f ∷ driver_past line)
sent_stops s n1 stamps line f h true is n stays k = sent_data s (driver_past line) f is stays k
sent_stops s n1 stamps line f h false is n stays k = sent_control s n1 stamps line f h is n stays k

-- an act that calls for frames while none is owed
calls : (s : Setting) (n1 : ℕ) (a : driver.Act) (line : List LineAct) → owes_frame (owed s (driver_past line)) ≡ false
    → (open_at 0 (wire (driver_past line)) ≡ false → many commands (frames_by s (seen_behind s (driver_past line) (owed s (driver_past line))) a) ≤ 0)
    → (1 ≤ many closes (frames_by s (seen_behind s (driver_past line) (owed s (driver_past line))) a) → many each_frame (frames_by s (seen_behind s (driver_past line) (owed s (driver_past line))) a) ≤ 1) → Stops s (driver_past line)
    → (1 ≤ many closes (frames_sent (wire (driver_past line))) → sends commands (owed s (driver_past line) ++ calls_behind s (driver_past line) (owed s (driver_past line)) a) ≤ 0)
    × (1 ≤ sends closes (owed s (driver_past line) ++ calls_behind s (driver_past line) (owed s (driver_past line)) a) → sends each_frame (owed s (driver_past line) ++ calls_behind s (driver_past line) (owed s (driver_past line)) a) ≤ 1)
calls s n1 a line prompt quiet alone k =
    let past = driver_past line in (
      λ some. more_quiet s past a prompt (quiet (k.shut some).0),
      λ some. let few = first_owes s past a closes prompt in more_alone s past a prompt (alone (omega (arith, some, few))),
    )

-- while 0 isn't open a frame that comes to a lawful initiator calls for no control command that asks
pub shut_frame : (s : Setting) (past : List driver.Act) (f : Frame) → s.role ≡ Initiator → Lawful s past → open_at 0 (wire past) ≡ false → many commands (by_frame s.role (seen_behind s past (owed s past)).state f) ≤ 0
shut_frame s past f is l shut = by_frame_quiet s.role (seen_behind s past (owed s past)).state f is (λ apart. opening_state s f.dlci past is (below_unasked s f.dlci past is l shut apart))

-- nor does a connection that is held or freed
pub shut_flow : (s : Setting) (past : List driver.Act) (e signals : ℕ) → s.role ≡ Initiator → Lawful s past → open_at 0 (wire past) ≡ false → many commands (by_flow s.role (seen_behind s past (owed s past)).state e signals) ≤ 0
shut_flow s past e signals is l shut =
    let o = opened_state s e past is (below_shut s e past is l shut) in
    let same : many commands (by_flow s.role (seen_behind s past (owed s past)).state e signals) ≡ 0 = ap (λ (b : Bool). many commands (if b then msc_frame s.role e signals ∷ [] else [])) o in
    omega (arith, same)

stops : (s : Setting) (n1 : ℕ) (stamps : ℕ → Stamp) (line : List LineAct) → IsOnceLine s n1 line → Stops s (driver_past line)
unfolding Lawful
stops s n1 stamps [] h = record { so_far = tt; shut = λ some. absurd (omega (arith, some)); none = λ some. absurd (omega (arith, some)); alone = λ some. absurd (omega (arith, some)) }
stops s n1 stamps (AtModem a ∷ line) h = stops s n1 stamps line (once_line_before s n1 (AtModem a) line h)
stops s n1 stamps (AtDriver (driver.Sent f) ∷ line) h =
    let past = driver_past line in
    let older = once_line_before s n1 (AtDriver (driver.Sent f)) line h in
    let k = stops s n1 stamps line older in
    sent_stops s n1 stamps line f h (is_data_frame f) refl h.lawful.driver_lawful.0.controlled (λ some. driver_stays 0 (driver.Sent f) past h.once (sabm_before s n1 line older some) (k.shut some)) k
stops s n1 stamps (AtDriver (driver.Told o) ∷ line) h =
    let k = stops s n1 stamps line (once_line_before s n1 (AtDriver (driver.Told o)) line h) in
    let c = dropped commands (owed s (driver_past line)) in
    let e = dropped each_frame (owed s (driver_past line)) in
    let d = dropped closes (owed s (driver_past line)) in
    record { so_far = k.so_far; shut = k.shut; none = λ some. let x = k.none some in omega (arith, x, c); alone = λ some. let x = k.alone (omega (arith, some, d)) in omega (arith, x, e) }
stops s n1 stamps (AtDriver (driver.Heard u n l) ∷ line) h =
    let k = stops s n1 stamps line (once_line_before s n1 (AtDriver (driver.Heard u n l)) line h) in
    let c = dropped commands (owed s (driver_past line)) in
    let e = dropped each_frame (owed s (driver_past line)) in
    let d = dropped closes (owed s (driver_past line)) in
    record { so_far = k.so_far; shut = k.shut; none = λ some. let x = k.none some in omega (arith, x, c); alone = λ some. let x = k.alone (omega (arith, some, d)) in omega (arith, x, e) }
stops s n1 stamps (AtDriver driver.Given ∷ line) h =
    let past = driver_past line in
    let older = once_line_before s n1 (AtDriver driver.Given) line h in
    let k = stops s n1 stamps line older in
    record { so_far = k.so_far; shut = λ some. driver_stays 0 driver.Given past h.once (sabm_before s n1 line older some) (k.shut some); none = k.none; alone = k.alone }
stops s n1 stamps (AtDriver driver.Lost ∷ line) h =
    let past = driver_past line in
    let older = once_line_before s n1 (AtDriver driver.Lost) line h in
    let k = stops s n1 stamps line older in
    let v = seen_behind s past (owed s past) in
    let c = sends_both commands (unsent (owed s past)) (calls_behind s past (owed s past) driver.Lost) in
    let c1 = unsent_none commands (owed s past) in
    let c2 = called commands 0 s v driver.Lost (omega arith) in
    let e = sends_both each_frame (unsent (owed s past)) (calls_behind s past (owed s past) driver.Lost) in
    let e1 = unsent_none each_frame (owed s past) in
    let e2 = called each_frame 0 s v driver.Lost (omega arith) in
    record {
      so_far = k.so_far;
      shut = λ some. driver_stays 0 driver.Lost past h.once (sabm_before s n1 line older some) (k.shut some);
      none = λ some. omega (arith, c, c1, c2);
      alone = λ some. omega (arith, e, e1, e2);
    }
stops s n1 stamps (AtDriver (driver.Took q) ∷ line) h =
    let past = driver_past line in
    let older = once_line_before s n1 (AtDriver (driver.Took q)) line h in
    let k = stops s n1 stamps line older in
    let v = seen_behind s past (owed s past) in
    let c = calls s n1 (driver.Took q) line h.lawful.driver_lawful.0.prompt
    (λ shut. asked_quiet s v q (is_none (at_once s v q)) refl q.ask refl (opened_state s 0 past older.lawful.is_initiator shut))
    (λ some. asked_alone s.role q.ask (is_none (at_once s v q))) k in
    record { so_far = k.so_far; shut = k.shut; none = c.0; alone = c.1 }
stops s n1 stamps (AtDriver (driver.Got f) ∷ line) h =
    let past = driver_past line in
    let older = once_line_before s n1 (AtDriver (driver.Got f)) line h in
    let k = stops s n1 stamps line older in
    let v = seen_behind s past (owed s past) in
    let c = calls s n1 (driver.Got f) line h.lawful.driver_lawful.0.prompt
    (λ shut. shut_frame s past f older.lawful.is_initiator older.lawful.driver_lawful shut)
    (λ some. by_frame_alone s.role v.state f older.lawful.is_initiator) k in
    record { so_far = k.so_far; shut = λ some. driver_stays 0 (driver.Got f) past h.once (sabm_before s n1 line older some) (k.shut some); none = c.0; alone = c.1 }
stops s n1 stamps (AtDriver driver.Tick ∷ line) h =
    let past = driver_past line in
    let older = once_line_before s n1 (AtDriver driver.Tick) line h in
    let k = stops s n1 stamps line older in
    let v = seen_behind s past (owed s past) in
    let none = tick_none s.role closes (λ d. refl) (λ d. refl) s.n1 v.state v.queued 0 62 in
    let c = calls s n1 driver.Tick line h.lawful.driver_lawful.0.prompt
    (λ shut. tick_none s.role commands (λ d. refl) (λ d. refl) s.n1 v.state v.queued 0 62)
    (λ some. absurd (omega (arith, some, none))) k in
    record { so_far = k.so_far; shut = λ some. driver_stays 0 driver.Tick past h.once (sabm_before s n1 line older some) (k.shut some); none = c.0; alone = c.1 }
stops s n1 stamps (AtDriver (driver.Held e) ∷ line) h =
    let past = driver_past line in
    let older = once_line_before s n1 (AtDriver (driver.Held e)) line h in
    let k = stops s n1 stamps line older in
    let v = seen_behind s past (owed s past) in
    let c = calls s n1 (driver.Held e) line h.lawful.driver_lawful.0.prompt
    (λ shut. shut_flow s past e held_up older.lawful.is_initiator older.lawful.driver_lawful shut)
    (λ some. one_if (is_opened (v.state e)) (msc_frame s.role e held_up)) k in
    record { so_far = k.so_far; shut = k.shut; none = c.0; alone = c.1 }
stops s n1 stamps (AtDriver (driver.Freed e) ∷ line) h =
    let past = driver_past line in
    let older = once_line_before s n1 (AtDriver (driver.Freed e)) line h in
    let k = stops s n1 stamps line older in
    let v = seen_behind s past (owed s past) in
    let c = calls s n1 (driver.Freed e) line h.lawful.driver_lawful.0.prompt
    (λ shut. shut_flow s past e ready older.lawful.is_initiator older.lawful.driver_lawful shut)
    (λ some. one_if (is_opened (v.state e)) (msc_frame s.role e ready)) k in
    record { so_far = k.so_far; shut = k.shut; none = c.0; alone = c.1 }

no_time : ℕ → Stamp
no_time n = record { seconds = 0; micros = 0 }

-- on a lawful line whose driver asks for each connection once it sends no control command behind a CLD or its response
pub driver_stops : (s : Setting) (n1 : ℕ) (line : List LineAct) → IsOnceLine s n1 line → StopsAsking (frames_sent (wire (driver_past line)))
driver_stops s n1 line h = (stops s n1 no_time line h).so_far
