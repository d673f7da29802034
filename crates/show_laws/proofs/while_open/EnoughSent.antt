-- Each end has sent, or owes, as many answers as asks came to it.
use Rattle.std.specs.Prelude.{◌≡◌, ℕ, ◌+◌, ◌≤◌, not, Bool, true, false, List, [], ◌∷◌, ◌++◌, drop, map, refl, if◌then◌else◌}
use Rattle.std.specs.List.{list_any}
use Rattle.std.proofs.Common.{ap, arith}
use Rattle.mux_frame.specs.Frames.{Frame}
use Rattle.mux_station.specs.Acts as station
use Rattle.mux_station.specs.Sending as sending
use Rattle.mux_station.specs.Sending.{Sends, StationLawful, StationSetting, called_frames, owed_frames, station_view}
use Rattle.mux_station.specs.Tables.{by_frame}
use Rattle.mux_station.specs.Written.{is_data_frame}
use Rattle.modem_history.specs.Acts.{Act, Took, Got, Sent, Told, Heard, Tick, Lost, Held, Freed, Given, wire}
use Rattle.modem_history.specs.Calls.{Setting, HistoryView, calls_behind, calls_seeing, frames, frames_by, is_lost, lines_said, said_at_once, seen_behind, states_now, tolds}
use Rattle.modem_history.specs.Lawful.{IsNext, Lawful, When, owed}
use Rattle.modem_history.specs.TwoEnds.{frames_got, frames_sent}
use Rattle.modem_show.specs.Asking.{is_answer, is_ask}
use Rattle.show_laws.specs.Lines.{ReadsWhileOpen}
use Rattle.show_laws.proofs.answered.EnoughCalled.{frame_enough}
use Rattle.show_laws.proofs.counts.ManyFrames.{many, many_both, unit}
use Rattle.show_laws.proofs.counts.DriverCounts.{sends, sends_both, sends_mapped}

-- ## The driver

abbrev Enough : Setting → List Act → Type 0
Enough s past = many is_ask (frames_got (wire past)) ≤ sends is_answer (owed s past) + many is_answer (frames_sent (wire past))

at_least : (s : Setting) (v : HistoryView) (a : Act) (n : ℕ) → v.lost ≡ false → n ≤ many is_answer (frames_by s v a) → n ≤ sends is_answer (calls_seeing s v a)
at_least s v a n live h =
    let sent = map Sent (frames s v a) in
    let now = states_now s v (a ∷ sent) in
    let said = said_at_once s v a ++ (lines_said s v a ++ tolds v now a) in
    let parts = sends_both is_answer sent said in
    let first = sends_mapped is_answer (frames s v a) in
    let e : many is_answer (frames s v a) ≡ many is_answer (frames_by s v a) = ap (λ (b : Bool). many is_answer (if b then [] else frames_by s v a)) live in
    omega (arith, parts, first, e, h)

more : (s : Setting) (past : List Act) (a : Act) → Enough s past → many is_ask (frames_got (wire past)) ≤ sends is_answer (owed s past ++ calls_behind s past (owed s past) a) + many is_answer (frames_sent (wire past))
more s past a k = let parts = sends_both is_answer (owed s past) (calls_behind s past (owed s past) a) in omega (arith, parts, k)

sent_on : (s : Setting) (past : List Act) (f : Frame) (b : Bool) → is_data_frame f ≡ b → When (not b) (IsNext (owed s past) (Sent f)) → Enough s past
    → many is_ask (frames_got (wire past)) ≤ sends is_answer (if b then owed s past else drop 1 (owed s past)) + (unit (is_answer f) + many is_answer (frames_sent (wire past)))
sent_on s past f true is n k = omega (arith, k)
sent_on s past f false is n k =
    let e : sends is_answer (owed s past) ≡ unit (is_answer f) + sends is_answer n.later = ap (sends is_answer) n.is_next in
    let d : sends is_answer (drop 1 (owed s past)) ≡ sends is_answer n.later = ap (λ (xs : List Act). sends is_answer (drop 1 xs)) n.is_next in
    omega (arith, e, d, k)

told_on : (s : Setting) (past : List Act) (a : Act) → IsNext (owed s past) a → sends is_answer (a ∷ []) ≤ 0 → Enough s past → many is_ask (frames_got (wire past)) ≤ sends is_answer (drop 1 (owed s past)) + many is_answer (frames_sent (wire past))
told_on s past a n none k =
    let e : sends is_answer (owed s past) ≡ sends is_answer (a ∷ n.later) = ap (sends is_answer) n.is_next in
    let parts = sends_both is_answer (a ∷ []) n.later in
    let d : sends is_answer (drop 1 (owed s past)) ≡ sends is_answer n.later = ap (λ (xs : List Act). sends is_answer (drop 1 xs)) n.is_next in
    omega (arith, e, parts, none, d, k)

-- a driver whose line isn't lost has sent or owes an answer for each ask, where control commands came while 0 was open
pub driver_enough_while_open : (s : Setting) (past : List Act) → Lawful s past → is_lost past ≡ false → ReadsWhileOpen s.role (wire past) → Enough s past
unfolding Lawful
driver_enough_while_open s [] l live reads = omega arith
driver_enough_while_open s (Sent f ∷ past) l live reads = sent_on s past f (is_data_frame f) refl l.0.controlled (driver_enough_while_open s past l.1 live reads)
driver_enough_while_open s (Told o ∷ past) l live reads = told_on s past (Told o) l.0.answered (omega arith) (driver_enough_while_open s past l.1 live reads)
driver_enough_while_open s (Heard u d line ∷ past) l live reads = told_on s past (Heard u d line) l.0.heard (omega arith) (driver_enough_while_open s past l.1 live reads)
driver_enough_while_open s (Given ∷ past) l live reads = driver_enough_while_open s past l.1 live reads
driver_enough_while_open s (Lost ∷ past) l live reads = absurd (let x : true ≡ false = live in cc)
driver_enough_while_open s (Took q ∷ past) l live reads = more s past (Took q) (driver_enough_while_open s past l.1 live reads)
driver_enough_while_open s (Tick ∷ past) l live reads = more s past Tick (driver_enough_while_open s past l.1 live reads)
driver_enough_while_open s (Held d ∷ past) l live reads = more s past (Held d) (driver_enough_while_open s past l.1 live reads)
driver_enough_while_open s (Freed d ∷ past) l live reads = more s past (Freed d) (driver_enough_while_open s past l.1 live reads)
driver_enough_while_open s (Got f ∷ past) l live reads =
    let v = seen_behind s past (owed s past) in
    let k = driver_enough_while_open s past l.1 live reads.1 in
    let parts = sends_both is_answer (owed s past) (calls_behind s past (owed s past) (Got f)) in
    let one = at_least s v (Got f) (unit (is_ask f)) live (frame_enough s.role v.state f (λ asks. reads.0 asks)) in
    omega (arith, k, parts, one)

-- ## The modem

abbrev StationEnough : StationSetting → List station.Act → Type 0
StationEnough s past = many is_ask (frames_got past) ≤ many is_answer (owed_frames s past) + many is_answer (frames_sent past)

station_more : (s : StationSetting) (past : List station.Act) (a : station.Act) → StationEnough s past → many is_ask (frames_got past) ≤ many is_answer (owed_frames s past ++ called_frames s past a) + many is_answer (frames_sent past)
station_more s past a k = let parts = many_both is_answer (owed_frames s past) (called_frames s past a) in omega (arith, parts, k)

station_sent : (s : StationSetting) (past : List station.Act) (f : Frame) (b : Bool) → Sends s past f b → StationEnough s past
    → many is_ask (frames_got past) ≤ many is_answer (if b then owed_frames s past else drop 1 (owed_frames s past)) + (unit (is_answer f) + many is_answer (frames_sent past))
unfolding Sends
station_sent s past f true n k = omega (arith, k)
station_sent s past f false n k =
    let e : many is_answer (owed_frames s past) ≡ unit (is_answer f) + many is_answer n.later = ap (many is_answer) n.is_next in
    let d : many is_answer (drop 1 (owed_frames s past)) ≡ many is_answer n.later = ap (λ (fs : List Frame). many is_answer (drop 1 fs)) n.is_next in
    omega (arith, e, d, k)

-- so has a station whose line isn't lost, for each that came to it
pub station_enough_while_open : (s : StationSetting) (past : List station.Act) → StationLawful s past → list_any sending.is_loss past ≡ false → ReadsWhileOpen s.role past → StationEnough s past
unfolding StationLawful
station_enough_while_open s [] l live reads = omega arith
station_enough_while_open s (station.Sent f ∷ past) l live reads = station_sent s past f (is_data_frame f) l.0 (station_enough_while_open s past l.1 live reads)
station_enough_while_open s (station.Called c ∷ past) l live reads = station_more s past (station.Called c) (station_enough_while_open s past l live reads)
station_enough_while_open s (station.Tick ∷ past) l live reads = station_more s past station.Tick (station_enough_while_open s past l live reads)
station_enough_while_open s (station.Given ∷ past) l live reads = station_more s past station.Given (station_enough_while_open s past l live reads)
station_enough_while_open s (station.Lost ∷ past) l live reads = absurd (let x : true ≡ false = live in cc)
station_enough_while_open s (station.Got f ∷ past) l live reads =
    let k = station_enough_while_open s past l live reads.1 in
    let parts = many_both is_answer (owed_frames s past) (called_frames s past (station.Got f)) in
    let v = station_view s past in
    let e : many is_answer (called_frames s past (station.Got f)) ≡ many is_answer (by_frame s.role v.state f) = ap (λ (b : Bool). many is_answer (if b then [] else by_frame s.role v.state f)) live in
    let one = frame_enough s.role v.state f (λ asks. reads.0 asks) in
    omega (arith, k, parts, e, one)
