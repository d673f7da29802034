-- On a calm line each control command comes in time.
use Rattle.std.specs.Prelude.{◌≡◌, ℕ, ◌+◌, ◌≤◌, ◌||◌, Bool, true, false, List, [], ◌∷◌, ◌++◌, is_none, refl, if◌then◌else◌}
use Rattle.std.specs.List.{list_any}
use Rattle.std.proofs.Common.{arith, subst}
use Rattle.std.proofs.lemmas.Bool.{or_left, or_right}
use Rattle.mux_frame.specs.Frames.{Frame}
use Rattle.mux_frame.specs.declared.frame.Kind.TheVariants.{Sabm, Ua}
use Rattle.mux_station.specs.declared.role.Role.{Role}
use Rattle.mux_station.specs.declared.role.Role.TheVariants.{Initiator, Responder}
use Rattle.mux_station.specs.Acts as station
use Rattle.mux_station.specs.Messages.{brings_command, brings_response, cld}
use Rattle.mux_station.specs.Opening.{is_open}
use Rattle.mux_station.specs.Sending.{Sends, StationLawful, called_frames, owed_frames, refused, station_view}
use Rattle.mux_station.specs.States.{is_stopping, state_of}
use Rattle.mux_station.specs.Written.{is_data_frame, is_on}
use Rattle.modem_history.specs.Acts as driver
use Rattle.modem_history.specs.Acts.{wire}
use Rattle.modem_history.specs.Calls.{Setting}
use Rattle.modem_history.specs.TwoEnds.{frames_got, frames_sent}
use Rattle.show_laws.specs.InTime.{AsksInTime, IsCalmLine}
use Rattle.show_laws.specs.Lines.{AtDriver, AtModem, LineAct, ReadsInTime, StopsAsking, closes, driver_past, is_in_time, modem_past, responding}
use Rattle.show_laws.proofs.answered.DriverStops.{commands, driver_stops}
use Rattle.show_laws.proofs.asks.AnswersCalled.{AnyProbe}
use Rattle.show_laws.proofs.asks.NoneUnasked.{any_probes}
use Rattle.show_laws.proofs.counts.BalancedTables.{tick_none}
use Rattle.show_laws.proofs.counts.DriverCounts.{driver_sends}
use Rattle.show_laws.proofs.counts.ManyFrames.{many, many_both, none_many, unit}
use Rattle.show_laws.proofs.counts.StationCounts.{station_called, station_sends}
use Rattle.show_laws.proofs.intime.Behind.{Behind, behind_before, stops_before}
use Rattle.show_laws.proofs.intime.CalmLines.{calm_before, calm_once}
use Rattle.show_laws.proofs.intime.FirstCommands.{behind_sabm}
use Rattle.show_laws.proofs.intime.ModemStops.{ModemSoFar, call_alone, call_bare, calls_more, got_alone, got_bare, sent_more}
use Rattle.show_laws.proofs.intime.OpenZero.{closes_sent, driver_stopping, driver_up, modem_stopping, modem_up, ua_asked}
use Rattle.show_laws.proofs.lines.CapturedFrames.{both_ways, came_few}
use Rattle.show_laws.proofs.openings.ClosersBehindSabm.{modem_unclosed}
use Rattle.show_laws.proofs.openings.DiscBehindUa.{once_many}
use Rattle.show_laws.proofs.openings.ModemCloses.{clds_closed, none_closed}
use Rattle.show_laws.proofs.openings.OpenBelowZero.{many_or}
use Rattle.show_laws.proofs.openings.ResponderCalls.{down_by_cld, each_frame}
use Rattle.show_laws.proofs.talks.EndedLines.{no_sabms}

-- ## The modem's commands

-- while 0 is open the modem has sent neither a CLD nor the response to one
closed_none : (s : Setting) (n1 : ℕ) (line : List LineAct) → IsCalmLine s n1 line → is_open Responder 0 (modem_past line) ≡ true → many closes (frames_sent (modem_past line)) ≤ 0
closed_none s n1 line h o =
    let past = modem_past line in
    let came = came_few (is_on Sabm 0) (wire (driver_past line)) past (both_ways line h.lawful.one_line).at_modem in
    let sent = once_many (is_on Sabm 0) (frames_sent (wire (driver_past line))) in
    let once = h.once 0 in
    let own = none_closed n1 0 past h.lawful.modem_lawful (omega (arith, came, sent, once)) (no_sabms 0 (frames_sent past) h.opens_none) o in
    let its = clds_closed (frames_sent past) in
    let other = modem_unclosed s n1 0 line (calm_once s n1 line h) o in
    let theirs = clds_closed (frames_got past) in
    let responses = station_sends AnyProbe (responding n1) (brings_response cld) (brings_command cld) (down_by_cld n1 Responder) past h.lawful.modem_lawful in
    let parts = many_or (brings_command cld) (brings_response cld) (frames_sent past) in
    omega (arith, own, its, other, theirs, responses, parts)

so_far : (s : Setting) (n1 : ℕ) (line : List LineAct) → IsCalmLine s n1 line → ModemSoFar n1 (modem_past line)
unfolding StationLawful Sends
so_far s n1 [] h = record { behind = tt; stops = tt; first = λ some. absurd (omega (arith, some)); none = λ some. absurd (omega (arith, some)); alone = λ some. absurd (omega (arith, some)) }
so_far s n1 (AtDriver a ∷ line) h = so_far s n1 line (calm_before s n1 (AtDriver a) line h)
so_far s n1 (AtModem (station.Sent f) ∷ line) h = sent_more n1 (modem_past line) f (is_data_frame f) refl h.lawful.modem_lawful.0 (so_far s n1 line (calm_before s n1 (AtModem (station.Sent f)) line h))
so_far s n1 (AtModem (station.Got f) ∷ line) h =
    let past = modem_past line in
    let older = calm_before s n1 (AtModem (station.Got f)) line h in
    let k = so_far s n1 line older in
    let v = station_view (responding n1) past in
    let c = calls_more n1 past (station.Got f) older.lawful.modem_lawful older.modem_live h.prompt.0 (λ o. closed_none s n1 line older o) (λ shut. got_bare v.state f shut) (λ some. got_alone v.state f some) in
    record { behind = k.behind; stops = k.stops; first = c.0; none = c.1.0; alone = c.1.1 }
so_far s n1 (AtModem (station.Called q) ∷ line) h =
    let past = modem_past line in
    let older = calm_before s n1 (AtModem (station.Called q)) line h in
    let k = so_far s n1 line older in
    let st = responding n1 in
    let v = station_view st past in
    let c = calls_more n1 past (station.Called q) older.lawful.modem_lawful older.modem_live h.prompt.0 (λ o. closed_none s n1 line older o) (λ shut. call_bare n1 v q (is_none (refused st v q)) refl shut) (λ some. call_alone q (is_none (refused st v q))) in
    record { behind = k.behind; stops = k.stops; first = c.0; none = c.1.0; alone = c.1.1 }
so_far s n1 (AtModem station.Tick ∷ line) h =
    let past = modem_past line in
    let older = calm_before s n1 (AtModem station.Tick) line h in
    let k = so_far s n1 line older in
    let v = station_view (responding n1) past in
    let none = tick_none Responder closes (λ d. refl) (λ d. refl) n1 v.state v.queued 0 62 in
    let c = calls_more n1 past station.Tick older.lawful.modem_lawful older.modem_live h.prompt.0 (λ o. closed_none s n1 line older o)
    (λ shut. tick_none Responder commands (λ d. refl) (λ d. refl) n1 v.state v.queued 0 62) (λ some. absurd (omega (arith, some, none))) in
    record { behind = k.behind; stops = k.stops; first = c.0; none = c.1.0; alone = c.1.1 }
so_far s n1 (AtModem station.Given ∷ line) h =
    let past = modem_past line in
    let older = calm_before s n1 (AtModem station.Given) line h in
    let k = so_far s n1 line older in
    record {
      behind = k.behind;
      stops = k.stops;
      first = λ some. let x = same commands in k.first (omega (arith, some, x));
      none = λ some. let y = k.none some in let x = same commands in omega (arith, x, y);
      alone = λ some. let z = same closes in let y = k.alone (omega (arith, some, z)) in let x = same each_frame in omega (arith, x, y);
    }
  where
    same : (u : Frame → Bool) → many u (owed_frames (responding n1) (modem_past line) ++ called_frames (responding n1) (modem_past line) station.Given) ≡ many u (owed_frames (responding n1) (modem_past line))
    same u =
        let both = many_both u (owed_frames (responding n1) (modem_past line)) (called_frames (responding n1) (modem_past line) station.Given) in
        let none = station_called u 0 (responding n1) (modem_past line) station.Given (omega arith) in
        omega (arith, both, none)
so_far s n1 (AtModem station.Lost ∷ line) h = absurd (let x : true ≡ false = h.modem_live in cc)

-- ## In time

in_time : (r : Role) (f : Frame) (past : List station.Act) → (many (brings_command cld) (frames_sent past) ≤ 0 → is_open r 0 past ≡ true) → (1 ≤ many (brings_command cld) (frames_sent past) → is_stopping (state_of r 0 past) ≡ true) → is_in_time r f past ≡ true
in_time r f past open_yet stopping = by_sent (list_any (brings_command cld) (frames_sent past)) refl
  where
    some : (fs : List Frame) → list_any (brings_command cld) fs ≡ true → 1 ≤ many (brings_command cld) fs
    some [] e = cc
    some (g ∷ fs) e = by_head (brings_command cld g) e (some fs)
      where
        by_head : (b : Bool) → (b || list_any (brings_command cld) fs) ≡ true → (list_any (brings_command cld) fs ≡ true → 1 ≤ many (brings_command cld) fs) → 1 ≤ unit b + many (brings_command cld) fs
        by_head true e k = omega arith
        by_head false e k = let x = k e in omega (arith, x)

    by_kind : (b : Bool) → list_any (brings_command cld) (frames_sent past) ≡ true → is_stopping (state_of r 0 past) ≡ true → (if b then is_stopping (state_of r 0 past) else list_any (brings_command cld) (frames_sent past)) ≡ true
    by_kind true e s = s
    by_kind false e s = e

    by_sent : (b : Bool) → list_any (brings_command cld) (frames_sent past) ≡ b → is_in_time r f past ≡ true
    by_sent true e = or_right (is_open r 0 past) _ (by_kind (brings_command cld f) e (stopping (some (frames_sent past) e)))
    by_sent false e = or_left (is_open r 0 past) _ (open_yet (none_many (brings_command cld) (frames_sent past) e))

responses_none : (fs : List Frame) → many (brings_command cld) fs ≤ 0 → many (brings_response cld) fs ≤ 0 → many closes fs ≤ 0
responses_none fs c r = let parts = many_or (brings_command cld) (brings_response cld) fs in omega (arith, c, r, parts)

at_driver : (s : Setting) (n1 : ℕ) (line : List LineAct) → IsCalmLine s n1 line → ReadsInTime Initiator (wire (driver_past line))
at_driver s n1 [] h = tt
at_driver s n1 (AtModem a ∷ line) h = at_driver s n1 line (calm_before s n1 (AtModem a) line h)
at_driver s n1 (AtDriver (driver.Got f) ∷ line) h =
    let older = calm_before s n1 (AtDriver (driver.Got f)) line h in
    let past = driver_past line in
    let m = so_far s n1 line older in
    let ways = (both_ways (AtDriver (driver.Got f) ∷ line) h.lawful.one_line).at_driver in
    let behind = behind_before (is_on Ua 0) ways.later (f ∷ frames_got (wire past)) (subst (λ (fs : List Frame). Behind (is_on Ua 0) fs) ways.sent_are m.behind) in
    let stops = stops_before ways.later (f ∷ frames_got (wire past)) (subst (λ (fs : List Frame). StopsAsking fs) ways.sent_are m.stops) in
    let responses = driver_sends AnyProbe s (brings_response cld) (brings_command cld) (down_by_cld s.n1 s.role) past older.lawful.driver_lawful (any_probes past) in
    let clds = closes_sent (frames_got (wire past)) in (
      λ ask.
          let ua = behind.0 ask in
          let none = none_many closes (frames_got (wire past)) (stops.0 ask) in
          in_time Initiator f (wire past)
          (λ unsent. (driver_up s n1 line older (ua_asked s n1 line older ua) (responses_none (frames_sent (wire past)) unsent (omega (arith, responses, clds, none))) none).opened ua)
          (λ some. driver_stopping s n1 line older some none),
      at_driver s n1 line older,
    )
at_driver s n1 (AtDriver (driver.Sent f) ∷ line) h = at_driver s n1 line (calm_before s n1 (AtDriver (driver.Sent f)) line h)
at_driver s n1 (AtDriver (driver.Took q) ∷ line) h = at_driver s n1 line (calm_before s n1 (AtDriver (driver.Took q)) line h)
at_driver s n1 (AtDriver (driver.Told o) ∷ line) h = at_driver s n1 line (calm_before s n1 (AtDriver (driver.Told o)) line h)
at_driver s n1 (AtDriver (driver.Heard u e l) ∷ line) h = at_driver s n1 line (calm_before s n1 (AtDriver (driver.Heard u e l)) line h)
at_driver s n1 (AtDriver driver.Tick ∷ line) h = at_driver s n1 line (calm_before s n1 (AtDriver driver.Tick) line h)
at_driver s n1 (AtDriver driver.Lost ∷ line) h = at_driver s n1 line (calm_before s n1 (AtDriver driver.Lost) line h)
at_driver s n1 (AtDriver (driver.Held e) ∷ line) h = at_driver s n1 line (calm_before s n1 (AtDriver (driver.Held e)) line h)
at_driver s n1 (AtDriver (driver.Freed e) ∷ line) h = at_driver s n1 line (calm_before s n1 (AtDriver (driver.Freed e)) line h)
at_driver s n1 (AtDriver driver.Given ∷ line) h = at_driver s n1 line (calm_before s n1 (AtDriver driver.Given) line h)

at_modem : (s : Setting) (n1 : ℕ) (line : List LineAct) → IsCalmLine s n1 line → ReadsInTime Responder (modem_past line)
at_modem s n1 [] h = tt
at_modem s n1 (AtDriver a ∷ line) h = at_modem s n1 line (calm_before s n1 (AtDriver a) line h)
at_modem s n1 (AtModem (station.Got f) ∷ line) h =
    let older = calm_before s n1 (AtModem (station.Got f)) line h in
    let past = modem_past line in
    let ways = (both_ways (AtModem (station.Got f) ∷ line) h.lawful.one_line).at_modem in
    let behind = behind_before (is_on Sabm 0) ways.later (f ∷ frames_got past) (subst (λ (fs : List Frame). Behind (is_on Sabm 0) fs) ways.sent_are (behind_sabm s (driver_past line) h.lawful.is_initiator h.lawful.driver_lawful)) in
    let stops = stops_before ways.later (f ∷ frames_got past) (subst (λ (fs : List Frame). StopsAsking fs) ways.sent_are (driver_stops s n1 line (calm_once s n1 line older))) in (
      λ ask.
          let none = none_many closes (frames_got past) (stops.0 ask) in
          in_time Responder f past (λ unsent. modem_up s n1 line older (behind.0 ask) unsent none) (λ some. modem_stopping s n1 line older some none),
      at_modem s n1 line older,
    )
at_modem s n1 (AtModem (station.Sent f) ∷ line) h = at_modem s n1 line (calm_before s n1 (AtModem (station.Sent f)) line h)
at_modem s n1 (AtModem (station.Called c) ∷ line) h = at_modem s n1 line (calm_before s n1 (AtModem (station.Called c)) line h)
at_modem s n1 (AtModem station.Tick ∷ line) h = at_modem s n1 line (calm_before s n1 (AtModem station.Tick) line h)
at_modem s n1 (AtModem station.Lost ∷ line) h = at_modem s n1 line (calm_before s n1 (AtModem station.Lost) line h)
at_modem s n1 (AtModem station.Given ∷ line) h = at_modem s n1 line (calm_before s n1 (AtModem station.Given) line h)

-- on a calm line each control command comes in time, and the modem sends none behind a CLD or the response to one
pub asks_in_time : (s : Setting) (n1 : ℕ) (line : List LineAct) → AsksInTime s n1 line
unfolding AsksInTime
asks_in_time s n1 line h = record { at_driver = at_driver s n1 line h; at_modem = at_modem s n1 line h; by_modem = (so_far s n1 line h).stops }
