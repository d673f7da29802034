-- A lawful line on which the driver asks for each connection once: while it asks for one no UA on it has come.
use Rattle.std.specs.Prelude.{◌≡◌, ℕ, ◌≤◌, ◌&&◌, ◌||◌, not, Bool, true, false, List, [], ◌∷◌, refl}
use Rattle.std.proofs.Common.{ap, arith}
use Rattle.std.proofs.lemmas.Bool.{and_parts, or_parts}
use Rattle.mux_frame.specs.Frames.{Frame}
use Rattle.mux_frame.specs.declared.frame.Kind.TheVariants.{Sabm, Ua, Dm, Disc}
use Rattle.mux_station.specs.Acts as station
use Rattle.mux_station.specs.Opening.{ends, is_mode_frame_on}
use Rattle.mux_station.specs.Written.{is_on}
use Rattle.modem_history.specs.Acts as driver
use Rattle.modem_history.specs.Acts.{wire}
use Rattle.modem_history.specs.Calls.{Setting}
use Rattle.modem_history.specs.TwoEnds.{frames_got, frames_sent}
use Rattle.modem_history.proofs.commands.FramesOnLine.{asked_first}
use Rattle.show_laws.specs.Lines.{AtDriver, AtModem, LineAct, driver_past, modem_past}
use Rattle.show_laws.proofs.asks.AnswerShapes.{or_elim}
use Rattle.show_laws.proofs.counts.ManyFrames.{many, unit}
use Rattle.show_laws.proofs.lines.CapturedFrames.{both_ways, came_few}
use Rattle.show_laws.proofs.openings.DriverOpen.{IsOnceLine, none_filtered, once_line_before}
use Rattle.show_laws.proofs.openings.QuietFrames.{asked_at, zero_at}
use Rattle.show_laws.proofs.openings.UaBehindSabm.{ua_behind}

-- no UA on a connection has come when the driver asks for it
pub no_ua : (s : Setting) (n1 d : ℕ) (f : Frame) (line : List LineAct) → IsOnceLine s n1 (AtDriver (driver.Sent f) ∷ line) → is_on Sabm d f ≡ true → many (is_on Ua d) (frames_got (wire (driver_past line))) ≤ 0
no_ua s n1 d f line h is =
    let past = wire (driver_past line) in
    let both = both_ways line h.lawful.one_line.1 in
    let first = none_filtered (is_on Sabm d) (frames_sent past) (asked_first d f (frames_sent past) (h.once d) is) in
    let asked = came_few (is_on Sabm d) past (modem_past line) both.at_modem in
    let none = ua_behind n1 d (modem_past line) h.lawful.modem_lawful (omega (arith, first, asked)) in
    let came = came_few (is_on Ua d) (modem_past line) past both.at_driver in
    omega (arith, none, came)

-- while it is asked for no UA on it has come
pub waits_for_ua : (s : Setting) (n1 d : ℕ) (line : List LineAct) → IsOnceLine s n1 line → asked_at d (wire (driver_past line)) ≡ true → many (is_on Ua d) (frames_got (wire (driver_past line))) ≤ 0
waits_for_ua s n1 d [] h k = cc
waits_for_ua s n1 d (AtModem a ∷ line) h k = waits_for_ua s n1 d line (once_line_before s n1 (AtModem a) line h) k
waits_for_ua s n1 d (AtDriver (driver.Sent f) ∷ line) h k =
    let past = wire (driver_past line) in
    or_elim (is_on Sabm d f) (asked_at d past && not (is_mode_frame_on d f || ends (zero_at d past) d (station.Sent f))) k (no_ua s n1 d f line h)
    (λ a. waits_for_ua s n1 d line (once_line_before s n1 (AtDriver (driver.Sent f)) line h) (and_parts (asked_at d past) (not (is_mode_frame_on d f || ends (zero_at d past) d (station.Sent f))) a).0)
waits_for_ua s n1 d (AtDriver (driver.Got f) ∷ line) h k =
    let past = wire (driver_past line) in
    let a = and_parts (asked_at d past) (not (is_mode_frame_on d f || ends (zero_at d past) d (station.Got f))) k in
    let n = or_parts (is_mode_frame_on d f) (ends (zero_at d past) d (station.Got f)) (turned (is_mode_frame_on d f || ends (zero_at d past) d (station.Got f)) a.1) in
    let u = or_parts (is_on Ua d f) (is_on Dm d f || is_on Disc d f) (or_parts (is_on Sabm d f) (is_on Ua d f || (is_on Dm d f || is_on Disc d f)) n.0).1 in
    let x : unit (is_on Ua d f) ≡ 0 = ap unit u.0 in
    let y = waits_for_ua s n1 d line (once_line_before s n1 (AtDriver (driver.Got f)) line h) a.0 in
    omega (arith, x, y)
  where
    turned : (b : Bool) → not b ≡ true → b ≡ false
    turned false e = refl
    turned true e = cc
waits_for_ua s n1 d (AtDriver driver.Tick ∷ line) h k =
    let past = wire (driver_past line) in
    waits_for_ua s n1 d line (once_line_before s n1 (AtDriver driver.Tick) line h) (and_parts (asked_at d past) (not (ends (zero_at d past) d station.Tick)) k).0
waits_for_ua s n1 d (AtDriver driver.Lost ∷ line) h k =
    let past = wire (driver_past line) in
    waits_for_ua s n1 d line (once_line_before s n1 (AtDriver driver.Lost) line h) (and_parts (asked_at d past) (not (ends (zero_at d past) d station.Lost)) k).0
waits_for_ua s n1 d (AtDriver driver.Given ∷ line) h k =
    let past = wire (driver_past line) in
    waits_for_ua s n1 d line (once_line_before s n1 (AtDriver driver.Given) line h) (and_parts (asked_at d past) (not (ends (zero_at d past) d station.Given)) k).0
waits_for_ua s n1 d (AtDriver (driver.Took q) ∷ line) h k = waits_for_ua s n1 d line (once_line_before s n1 (AtDriver (driver.Took q)) line h) k
waits_for_ua s n1 d (AtDriver (driver.Told o) ∷ line) h k = waits_for_ua s n1 d line (once_line_before s n1 (AtDriver (driver.Told o)) line h) k
waits_for_ua s n1 d (AtDriver (driver.Heard u e l) ∷ line) h k = waits_for_ua s n1 d line (once_line_before s n1 (AtDriver (driver.Heard u e l)) line h) k
waits_for_ua s n1 d (AtDriver (driver.Held e) ∷ line) h k = waits_for_ua s n1 d line (once_line_before s n1 (AtDriver (driver.Held e)) line h) k
waits_for_ua s n1 d (AtDriver (driver.Freed e) ∷ line) h k = waits_for_ua s n1 d line (once_line_before s n1 (AtDriver (driver.Freed e)) line h) k
