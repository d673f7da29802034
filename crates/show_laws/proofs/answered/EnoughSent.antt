-- Each end has sent, or owes, as many frames of a test as frames came to it that call for one.
use Rattle.std.specs.Prelude.{◌≡◌, ℕ, ◌+◌, ◌≤◌, not, Bool, true, false, List, [], ◌∷◌, ◌++◌, drop, map, refl, if◌then◌else◌}
use Rattle.std.specs.List.{list_any}
use Rattle.std.proofs.Common.{ap, arith}
use Rattle.mux_frame.specs.Frames.{Frame}
use Rattle.mux_station.specs.declared.role.Role.{Role}
use Rattle.mux_station.specs.Acts as station
use Rattle.mux_station.specs.Sending as sending
use Rattle.mux_station.specs.Sending.{Sends, StationLawful, StationSetting, called_frames, owed_frames, station_view}
use Rattle.mux_station.specs.States.{state_of}
use Rattle.mux_station.specs.Tables.{by_frame}
use Rattle.mux_station.specs.Written.{is_data_frame}
use Rattle.modem_history.specs.Acts.{Act, Took, Got, Sent, Told, Heard, Tick, Lost, Held, Freed, Given, wire}
use Rattle.modem_history.specs.Calls.{Setting, HistoryView, calls_behind, calls_seeing, frames, frames_by, is_lost, lines_said, said_at_once, seen_behind, states_now, tolds}
use Rattle.modem_history.specs.Lawful.{IsNext, Lawful, When, owed}
use Rattle.modem_history.specs.TwoEnds.{frames_got, frames_sent}
use Rattle.show_laws.proofs.counts.ManyFrames.{many, many_both, unit}
use Rattle.show_laws.proofs.counts.DriverCounts.{sends, sends_both, sends_mapped}

-- each frame of the first test that came called for one of the second
abbrev pub CallsEach : Role → (t u : Frame → Bool) → List station.Act → Type 0
CallsEach r t u [] = Unit {0}
CallsEach r t u (station.Got f ∷ past) = (unit (t f) ≤ many u (by_frame r (λ e. state_of r e past) f)) × CallsEach r t u past
CallsEach r t u (_ ∷ past) = CallsEach r t u past

-- ## The driver

abbrev Enough : Setting → (t u : Frame → Bool) → List Act → Type 0
Enough s t u past = many t (frames_got (wire past)) ≤ sends u (owed s past) + many u (frames_sent (wire past))

at_least : (s : Setting) (u : Frame → Bool) (v : HistoryView) (a : Act) (n : ℕ) → v.lost ≡ false → n ≤ many u (frames_by s v a) → n ≤ sends u (calls_seeing s v a)
at_least s u v a n live h =
    let sent = map Sent (frames s v a) in
    let now = states_now s v (a ∷ sent) in
    let said = said_at_once s v a ++ (lines_said s v a ++ tolds v now a) in
    let parts = sends_both u sent said in
    let first = sends_mapped u (frames s v a) in
    let e : many u (frames s v a) ≡ many u (frames_by s v a) = ap (λ (b : Bool). many u (if b then [] else frames_by s v a)) live in
    omega (arith, parts, first, e, h)

more : (s : Setting) (t u : Frame → Bool) (past : List Act) (a : Act) → Enough s t u past → many t (frames_got (wire past)) ≤ sends u (owed s past ++ calls_behind s past (owed s past) a) + many u (frames_sent (wire past))
more s t u past a k = let parts = sends_both u (owed s past) (calls_behind s past (owed s past) a) in omega (arith, parts, k)

sent_on : (s : Setting) (t u : Frame → Bool) (past : List Act) (f : Frame) (b : Bool) → is_data_frame f ≡ b → When (not b) (IsNext (owed s past) (Sent f)) → Enough s t u past
    → many t (frames_got (wire past)) ≤ sends u (if b then owed s past else drop 1 (owed s past)) + (unit (u f) + many u (frames_sent (wire past)))
sent_on s t u past f true is n k = omega (arith, k)
sent_on s t u past f false is n k =
    let e : sends u (owed s past) ≡ unit (u f) + sends u n.later = ap (sends u) n.is_next in
    let d : sends u (drop 1 (owed s past)) ≡ sends u n.later = ap (λ (xs : List Act). sends u (drop 1 xs)) n.is_next in
    omega (arith, e, d, k)

told_on : (s : Setting) (t u : Frame → Bool) (past : List Act) (a : Act) → IsNext (owed s past) a → sends u (a ∷ []) ≤ 0 → Enough s t u past → many t (frames_got (wire past)) ≤ sends u (drop 1 (owed s past)) + many u (frames_sent (wire past))
told_on s t u past a n none k =
    let e : sends u (owed s past) ≡ sends u (a ∷ n.later) = ap (sends u) n.is_next in
    let parts = sends_both u (a ∷ []) n.later in
    let d : sends u (drop 1 (owed s past)) ≡ sends u n.later = ap (λ (xs : List Act). sends u (drop 1 xs)) n.is_next in
    omega (arith, e, parts, none, d, k)

-- where each frame of the first test called for one of the second, a driver whose line isn't lost has sent or owes as many
pub driver_enough : (s : Setting) (t u : Frame → Bool) (past : List Act) → Lawful s past → is_lost past ≡ false → CallsEach s.role t u (wire past) → Enough s t u past
unfolding Lawful
driver_enough s t u [] l live each = omega arith
driver_enough s t u (Sent f ∷ past) l live each = sent_on s t u past f (is_data_frame f) refl l.0.controlled (driver_enough s t u past l.1 live each)
driver_enough s t u (Told o ∷ past) l live each = told_on s t u past (Told o) l.0.answered (omega arith) (driver_enough s t u past l.1 live each)
driver_enough s t u (Heard k d line ∷ past) l live each = told_on s t u past (Heard k d line) l.0.heard (omega arith) (driver_enough s t u past l.1 live each)
driver_enough s t u (Given ∷ past) l live each = driver_enough s t u past l.1 live each
driver_enough s t u (Lost ∷ past) l live each = absurd (let x : true ≡ false = live in cc)
driver_enough s t u (Took q ∷ past) l live each = more s t u past (Took q) (driver_enough s t u past l.1 live each)
driver_enough s t u (Tick ∷ past) l live each = more s t u past Tick (driver_enough s t u past l.1 live each)
driver_enough s t u (Held d ∷ past) l live each = more s t u past (Held d) (driver_enough s t u past l.1 live each)
driver_enough s t u (Freed d ∷ past) l live each = more s t u past (Freed d) (driver_enough s t u past l.1 live each)
driver_enough s t u (Got f ∷ past) l live each =
    let v = seen_behind s past (owed s past) in
    let k = driver_enough s t u past l.1 live each.1 in
    let parts = sends_both u (owed s past) (calls_behind s past (owed s past) (Got f)) in
    let one = at_least s u v (Got f) (unit (t f)) live each.0 in
    omega (arith, k, parts, one)

-- ## The modem

abbrev StationEnough : StationSetting → (t u : Frame → Bool) → List station.Act → Type 0
StationEnough s t u past = many t (frames_got past) ≤ many u (owed_frames s past) + many u (frames_sent past)

station_more : (s : StationSetting) (t u : Frame → Bool) (past : List station.Act) (a : station.Act) → StationEnough s t u past → many t (frames_got past) ≤ many u (owed_frames s past ++ called_frames s past a) + many u (frames_sent past)
station_more s t u past a k = let parts = many_both u (owed_frames s past) (called_frames s past a) in omega (arith, parts, k)

station_sent : (s : StationSetting) (t u : Frame → Bool) (past : List station.Act) (f : Frame) (b : Bool) → Sends s past f b → StationEnough s t u past
    → many t (frames_got past) ≤ many u (if b then owed_frames s past else drop 1 (owed_frames s past)) + (unit (u f) + many u (frames_sent past))
unfolding Sends
station_sent s t u past f true n k = omega (arith, k)
station_sent s t u past f false n k =
    let e : many u (owed_frames s past) ≡ unit (u f) + many u n.later = ap (many u) n.is_next in
    let d : many u (drop 1 (owed_frames s past)) ≡ many u n.later = ap (λ (fs : List Frame). many u (drop 1 fs)) n.is_next in
    omega (arith, e, d, k)

-- so has a station whose line isn't lost
pub station_enough : (s : StationSetting) (t u : Frame → Bool) (past : List station.Act) → StationLawful s past → list_any sending.is_loss past ≡ false → CallsEach s.role t u past → StationEnough s t u past
unfolding StationLawful
station_enough s t u [] l live each = omega arith
station_enough s t u (station.Sent f ∷ past) l live each = station_sent s t u past f (is_data_frame f) l.0 (station_enough s t u past l.1 live each)
station_enough s t u (station.Called c ∷ past) l live each = station_more s t u past (station.Called c) (station_enough s t u past l live each)
station_enough s t u (station.Tick ∷ past) l live each = station_more s t u past station.Tick (station_enough s t u past l live each)
station_enough s t u (station.Given ∷ past) l live each = station_more s t u past station.Given (station_enough s t u past l live each)
station_enough s t u (station.Lost ∷ past) l live each = absurd (let x : true ≡ false = live in cc)
station_enough s t u (station.Got f ∷ past) l live each =
    let k = station_enough s t u past l live each.1 in
    let parts = many_both u (owed_frames s past) (called_frames s past (station.Got f)) in
    let v = station_view s past in
    let e : many u (called_frames s past (station.Got f)) ≡ many u (by_frame s.role v.state f) = ap (λ (b : Bool). many u (if b then [] else by_frame s.role v.state f)) live in
    let one = each.0 in
    omega (arith, k, parts, e, one)
