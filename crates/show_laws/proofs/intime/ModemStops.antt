-- A modem that is prompt sends its control commands behind the UA on 0, and none behind a CLD or the response to one.
use Rattle.std.specs.Prelude.{◌≡◌, zero, suc, ℕ, ◌+◌, ◌==◌, ◌≤◌, ◌&&◌, ◌||◌, not, Bool, true, false, List, [], ◌∷◌, ◌++◌, drop, Option, Some, None, refl, is_none, if◌then◌else◌}
use Rattle.std.specs.List.{list_any}
use Rattle.std.proofs.Common.{ap, arith, sym, ◌∙◌}
use Rattle.mux_frame.specs.Frames.{Frame}
use Rattle.mux_frame.specs.declared.frame.Kind.{Kind}
use Rattle.mux_frame.specs.declared.frame.Kind.TheVariants.{Sabm, Ua, Dm, Disc, Uih}
use Rattle.mux_station.specs.declared.role.Role.TheVariants.{Responder}
use Rattle.mux_station.specs.declared.error.StationError.{StationError}
use Rattle.mux_station.specs.declared.error.StationError.TheVariants.{Busy, NotOpen, TooLong}
use Rattle.mux_station.specs.Acts.{Call, Open, Close, Probe, Stop, Flow, Offer, Act, Sent}
use Rattle.mux_station.specs.Messages.{brings_command, brings_response, cld}
use Rattle.mux_station.specs.Opening.{is_open}
use Rattle.mux_station.specs.Sending.{Sends, StationLawful, StationView, called_frames, frames_asked, frames_seeing, is_loss, or_else, owed_frames, refused, station_view}
use Rattle.mux_station.specs.States.{State, is_opened, state_of}
use Rattle.mux_station.specs.Tables.{by_frame, by_message, by_table, held_up, message_frame, msc_frame, ready, ua_or_dm}
use Rattle.mux_station.specs.Written.{is_data_frame, is_on}
use Rattle.modem_history.specs.TwoEnds.{frames_sent}
use Rattle.show_laws.specs.Lines.{StopsAsking, closes, responding}
use Rattle.show_laws.proofs.answered.DriverStops.{commands, message_alone, message_asks_none, mode_asks_none}
use Rattle.show_laws.proofs.counts.ManyFrames.{few_if, many, many_both, many_fewer, many_none, unit}
use Rattle.show_laws.proofs.counts.StationCounts.{station_called}
use Rattle.show_laws.proofs.intime.Behind.{Behind}
use Rattle.show_laws.proofs.intime.FirstCommands.{data_bare}
use Rattle.show_laws.proofs.openings.ModemCloses.{table_no_cld}
use Rattle.show_laws.proofs.openings.ModemLine.{ua_called}
use Rattle.show_laws.proofs.openings.OpenBelowZero.{many_or}
use Rattle.show_laws.proofs.openings.ResponderCalls.{each_frame, table_not_down}

-- ## What calls for control commands

table_bare : (d : ℕ) (channel own : State) (k : Kind) → is_opened channel ≡ false → many commands (by_table Responder d channel own k) ≤ 0
table_bare d channel own Ua h = omega arith
table_bare d channel own Dm h = omega arith
table_bare d channel own Uih h = omega arith
table_bare d channel own Disc h = mode_asks_none Responder d (is_opened own)
table_bare d channel own Sabm h = by_zero (d == 0) (is_opened channel) h
  where
    by_zero : (z o : Bool) → o ≡ false → many commands (if z || o then ua_or_dm Responder d true ∷ (if z then [] else msc_frame Responder d ready ∷ []) else ua_or_dm Responder d false ∷ []) ≤ 0
    by_zero true o e = mode_asks_none Responder d true
    by_zero false true e = cc
    by_zero false false e = mode_asks_none Responder d false

probe_open : (l o b : Bool) (p : Option StationError) → is_none (or_else (if not l then Some TooLong else (if not o then Some NotOpen else (if b then Some Busy else None))) p) ≡ true → o ≡ true
probe_open false o b p h = cc
probe_open true true b p h = refl
probe_open true false b p h = cc

stop_opened : (o : Bool) (p : Option StationError) → is_none (or_else (if not o then Some NotOpen else None) p) ≡ true → o ≡ true
stop_opened true p h = refl
stop_opened false p h = cc

flow_opened : (a o : Bool) (p : Option StationError) → is_none (or_else (if not (a && o) then Some NotOpen else None) p) ≡ true → o ≡ true
flow_opened true true p h = refl
flow_opened true false p h = cc
flow_opened false o p h = cc

off : {P : Type 0} → (o : Bool) → o ≡ false → o ≡ true → P
off true h g = cc
off false h g = cc

-- while 0 isn't Opened a call of the responder's calls for no control command that asks
pub call_bare : (n1 : ℕ) (v : StationView) (c : Call) (b : Bool) → is_none (refused (responding n1) v c) ≡ b → is_opened (v.state 0) ≡ false → many commands (if b then frames_asked Responder c else []) ≤ 0
call_bare n1 v c false k shut = omega arith
call_bare n1 v (Open d) true k shut = omega arith
call_bare n1 v (Close d) true k shut = omega arith
call_bare n1 v (Probe octets) true k shut = off (is_opened (v.state 0)) shut (probe_open _ (is_opened (v.state 0)) _ _ k)
call_bare n1 v Stop true k shut = off (is_opened (v.state 0)) shut (stop_opened (is_opened (v.state 0)) _ k)
call_bare n1 v (Flow d go) true k shut = off (is_opened (v.state 0)) shut (flow_opened (is_opened (v.state d)) (is_opened (v.state 0)) _ k)
call_bare n1 v (Offer d octets) true k shut = omega arith

-- a call calls for one frame at most
pub call_alone : (c : Call) (b : Bool) → many each_frame (if b then frames_asked Responder c else []) ≤ 1
call_alone c false = omega arith
call_alone (Open d) true = omega arith
call_alone (Close d) true = omega arith
call_alone (Probe octets) true = omega arith
call_alone Stop true = omega arith
call_alone (Flow d go) true = few_if each_frame 1 (d == 0) (message_frame Responder (if go then 0xa3 else 0x63) [] ∷ []) (msc_frame Responder d (if go then ready else held_up) ∷ []) (omega arith) (omega arith)
call_alone (Offer d octets) true = omega arith

-- while 0 isn't Opened a frame that comes calls for no control command that asks
pub got_bare : (state : ℕ → State) (f : Frame) → is_opened (state 0) ≡ false → many commands (by_frame Responder state f) ≤ 0
got_bare state f shut =
    few_if commands 0 (is_on Uih 0 f) (by_message Responder (state 0) f) (by_table Responder f.dlci (state 0) (state f.dlci) f.kind) (message_asks_none Responder (state 0) f) (table_bare f.dlci (state 0) (state f.dlci) f.kind shut)

-- a frame that calls for a CLD or its response calls for nothing else
pub got_alone : (state : ℕ → State) (f : Frame) → 1 ≤ many closes (by_frame Responder state f) → many each_frame (by_frame Responder state f) ≤ 1
got_alone state f some = by_on (is_on Uih 0 f) some
  where
    by_on : (b : Bool) → 1 ≤ many closes (if b then by_message Responder (state 0) f else by_table Responder f.dlci (state 0) (state f.dlci) f.kind) → many each_frame (if b then by_message Responder (state 0) f else by_table Responder f.dlci (state 0) (state f.dlci) f.kind) ≤ 1
    by_on true k = message_alone Responder (state 0) f
    by_on false k =
        let parts = many_or (brings_command cld) (brings_response cld) (by_table Responder f.dlci (state 0) (state f.dlci) f.kind) in
        let x = table_no_cld Responder f.dlci (state 0) (state f.dlci) f.kind in
        let y = table_not_down Responder f.dlci (state 0) (state f.dlci) f.kind in
        absurd (omega (arith, k, parts, x, y))

-- ## The past

pub record ModemSoFar (n1 : ℕ) (past : List Act) : Type 0 where
  pub behind : Behind (is_on Ua 0) (frames_sent past)
  pub stops : StopsAsking (frames_sent past)
  pub first : 1 ≤ many commands (owed_frames (responding n1) past) → 1 ≤ many (is_on Ua 0) (frames_sent past)
  pub none : 1 ≤ many closes (frames_sent past) → many commands (owed_frames (responding n1) past) ≤ 0
  pub alone : 1 ≤ many closes (owed_frames (responding n1) past) → many each_frame (owed_frames (responding n1) past) ≤ 1

-- an act that calls for frames while none is owed
pub calls_more : (n1 : ℕ) (past : List Act) (a : Act) → StationLawful (responding n1) past → list_any is_loss past ≡ false → owed_frames (responding n1) past ≡ []
    → (is_open Responder 0 past ≡ true → many closes (frames_sent past) ≤ 0)
    → (is_opened (state_of Responder 0 past) ≡ false → many commands (frames_seeing (responding n1) (station_view (responding n1) past) a) ≤ 0)
    → (1 ≤ many closes (frames_seeing (responding n1) (station_view (responding n1) past) a) → many each_frame (frames_seeing (responding n1) (station_view (responding n1) past) a) ≤ 1)
    → (1 ≤ many commands (owed_frames (responding n1) past ++ called_frames (responding n1) past a) → 1 ≤ many (is_on Ua 0) (frames_sent past))
    × ((1 ≤ many closes (frames_sent past) → many commands (owed_frames (responding n1) past ++ called_frames (responding n1) past a) ≤ 0)
    × (1 ≤ many closes (owed_frames (responding n1) past ++ called_frames (responding n1) past a) → many each_frame (owed_frames (responding n1) past ++ called_frames (responding n1) past a) ≤ 1))
calls_more n1 past a l live owing closed bare alone = (λ some. first (few commands some), (λ some. none some, λ some. one (few closes some)))
  where
    fs : List Frame
    fs = frames_seeing (responding n1) (station_view (responding n1) past) a

    all : (u : Frame → Bool) → many u (owed_frames (responding n1) past ++ called_frames (responding n1) past a) ≤ many u (frames_seeing (responding n1) (station_view (responding n1) past) a)
    all u =
        let both = many_both u (owed_frames (responding n1) past) (called_frames (responding n1) past a) in
        let empty : many u (owed_frames (responding n1) past) ≡ 0 = ap (many u) owing in
        let more = station_called u (many u (frames_seeing (responding n1) (station_view (responding n1) past) a)) (responding n1) past a (omega arith) in
        omega (arith, both, empty, more)

    few : (u : Frame → Bool) → 1 ≤ many u (owed_frames (responding n1) past ++ called_frames (responding n1) past a) → 1 ≤ many u (frames_seeing (responding n1) (station_view (responding n1) past) a)
    few u some = let x = all u in omega (arith, some, x)

    opened : (b : Bool) → is_opened (state_of Responder 0 past) ≡ b → 1 ≤ many commands (frames_seeing (responding n1) (station_view (responding n1) past) a) → is_open Responder 0 past ≡ true
    opened true e some = e
    opened false e some = let x = bare e in absurd (omega (arith, x, some))

    first : 1 ≤ many commands (frames_seeing (responding n1) (station_view (responding n1) past) a) → 1 ≤ many (is_on Ua 0) (frames_sent past)
    first some =
        let ua = ua_called n1 0 past l live (opened (is_opened (state_of Responder 0 past)) refl some) in
        let empty : many (is_on Ua 0) (owed_frames (responding n1) past) ≡ 0 = ap (many (is_on Ua 0)) owing in
        omega (arith, ua, empty)

    none : 1 ≤ many closes (frames_sent past) → many commands (owed_frames (responding n1) past ++ called_frames (responding n1) past a) ≤ 0
    none some = by_count (many commands (owed_frames (responding n1) past ++ called_frames (responding n1) past a)) refl
      where
        by_count : (m : ℕ) → many commands (owed_frames (responding n1) past ++ called_frames (responding n1) past a) ≡ m → m ≤ 0
        by_count zero e = omega arith
        by_count (suc m) e =
            let c = closed (opened (is_opened (state_of Responder 0 past)) refl (few commands (omega (arith, e)))) in
            absurd (omega (arith, c, some))

    one : 1 ≤ many closes (frames_seeing (responding n1) (station_view (responding n1) past) a) → many each_frame (owed_frames (responding n1) past ++ called_frames (responding n1) past a) ≤ 1
    one some = let x = all each_frame in let y = alone some in omega (arith, x, y)

sent_data : (n1 : ℕ) (past : List Act) (f : Frame) → is_data_frame f ≡ true → ModemSoFar n1 past → ModemSoFar n1 (Sent f ∷ past)
sent_data n1 past f is k =
    let bare = data_bare f is in
    let u : unit (closes f) ≡ 0 = ap unit (data_open f is) in
    let same : owed_frames (responding n1) (Sent f ∷ past) ≡ owed_frames (responding n1) past = ap (λ (b : Bool). if b then owed_frames (responding n1) past else drop 1 (owed_frames (responding n1) past)) is in
    let c = ap (many commands) same in
    let d = ap (many closes) same in
    let e = ap (many each_frame) same in
    record {
      behind = (λ m. let t : true ≡ false = sym m ∙ bare in cc, k.behind);
      stops = (λ m. let t : true ≡ false = sym m ∙ bare in cc, k.stops);
      first = λ some. let x = k.first (omega (arith, some, c)) in omega (arith, x);
      none = λ some. let x = k.none (omega (arith, some, u)) in omega (arith, x, c);
      alone = λ some. let x = k.alone (omega (arith, some, d)) in omega (arith, x, e);
    }
  where
    data_open : (f : Frame) → is_data_frame f ≡ true → closes f ≡ false
    data_open f h = off_zero _ (f.dlci == 0) _ _ h
      where
        off_zero : (k z c d : Bool) → (k && not z) ≡ true → (((k && z) && c) || ((k && z) && d)) ≡ false
        off_zero true true c d h = cc
        off_zero true false c d h = refl
        off_zero false z c d h = refl

-- a frame that may be sent leaves all this so
pub sent_more : (n1 : ℕ) (past : List Act) (f : Frame) (b : Bool) → is_data_frame f ≡ b → Sends (responding n1) past f b → ModemSoFar n1 past → ModemSoFar n1 (Sent f ∷ past)
unfolding Sends
sent_more n1 past f true is g k = sent_data n1 past f is k
sent_more n1 past f false is g k =
    let same : owed_frames (responding n1) (Sent f ∷ past) ≡ g.later =
    ap (λ (b : Bool). if b then owed_frames (responding n1) past else drop 1 (owed_frames (responding n1) past)) is ∙ ap (λ (fs : List Frame). drop 1 fs) g.is_next in
    let c : many commands (owed_frames (responding n1) past) ≡ unit (commands f) + many commands g.later = ap (many commands) g.is_next in
    let d : many closes (owed_frames (responding n1) past) ≡ unit (closes f) + many closes g.later = ap (many closes) g.is_next in
    let e : many each_frame (owed_frames (responding n1) past) ≡ 1 + many each_frame g.later = ap (many each_frame) g.is_next in
    let c2 = ap (many commands) same in
    let d2 = ap (many closes) same in
    let e2 = ap (many each_frame) same in
    let less = many_fewer commands each_frame g.later (λ h q. refl) in
    record {
      behind = (λ m. let u : unit (commands f) ≡ 1 = ap unit m in k.first (omega (arith, c, u)), k.behind);
      stops = (λ m. let u : unit (commands f) ≡ 1 = ap unit m in many_none closes (frames_sent past) (closed_none (many closes (frames_sent past)) refl (omega (arith, c, u))), k.stops);
      first = λ some. let x = k.first (omega (arith, some, c, c2)) in omega (arith, x);
      none = λ some. by_closes (closes f) refl some (omega (arith, c, c2)) (λ one. omega (arith, one, e, less, c2)) (λ u. k.alone (omega (arith, d, u)));
      alone = λ some. let x = k.alone (omega (arith, some, d, d2)) in omega (arith, x, e, e2);
    }
  where
    closed_none : (m : ℕ) → many closes (frames_sent past) ≡ m → 1 ≤ many commands (owed_frames (responding n1) past) → m ≤ 0
    closed_none zero q some = omega arith
    closed_none (suc m) q some = let x = k.none (omega (arith, q)) in absurd (omega (arith, x, some))

    by_closes : (b : Bool) → closes f ≡ b → 1 ≤ unit b + many closes (frames_sent past) → many commands (owed_frames (responding n1) (Sent f ∷ past)) ≤ many commands (owed_frames (responding n1) past)
        → (many each_frame (owed_frames (responding n1) past) ≤ 1 → many commands (owed_frames (responding n1) (Sent f ∷ past)) ≤ 0) → (1 ≤ unit (closes f) → many each_frame (owed_frames (responding n1) past) ≤ 1)
        → many commands (owed_frames (responding n1) (Sent f ∷ past)) ≤ 0
    by_closes false q some fewer last one = let x = k.none (omega (arith, some)) in omega (arith, x, fewer)
    by_closes true q some fewer last one = let u : unit (closes f) ≡ 1 = ap unit q in last (one (omega (arith, u)))
