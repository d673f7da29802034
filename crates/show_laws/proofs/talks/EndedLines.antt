-- A connection that was closed, and that was asked for once, is open at neither end any more.
use Rattle.std.specs.Prelude.{◌≡◌, zero, suc, ℕ, ◌+◌, ◌==◌, ◌≤◌, ◌&&◌, ◌||◌, not, Bool, true, false, List, [], ◌∷◌, refl}
use Rattle.std.specs.List.{list_any}
use Rattle.std.proofs.Common.{ap, arith, sym, ◌∙◌}
use Rattle.std.proofs.lemmas.Bool.{and_left, and_parts, or_from, or_parts}
use Rattle.mux_frame.specs.Frames.{Frame}
use Rattle.mux_frame.specs.declared.frame.Kind.TheVariants.{Sabm, Ua, Uih}
use Rattle.mux_capture.specs.declared.packet.Stamp.{Stamp}
use Rattle.mux_station.specs.declared.role.Role.TheVariants.{Initiator}
use Rattle.mux_station.specs.Acts as station
use Rattle.mux_station.specs.Messages.{cld, command_of, message_of, octet_is}
use Rattle.mux_station.specs.Opening.{ends, is_mode_frame_on}
use Rattle.mux_station.proofs.states.OpeningSteps.{is_open_after}
use Rattle.mux_station.specs.Written.{is_data_frame, is_kind, is_on}
use Rattle.modem_history.specs.Acts as driver
use Rattle.modem_history.specs.Acts.{wire}
use Rattle.modem_history.specs.Calls.{Setting}
use Rattle.modem_history.specs.Connections.{carries}
use Rattle.modem_history.specs.Lawful.{Lawful}
use Rattle.modem_history.specs.TwoEnds.{AsksOnce, frames_got, frames_sent}
use Rattle.modem_history.proofs.commands.FramesOnLine.{asked_first}
use Rattle.modem_history.proofs.commands.SentCommands.{while_open}
use Rattle.show_laws.specs.Lines.{AtDriver, AtModem, LineAct, driver_past, modem_past}
use Rattle.show_laws.specs.Talks.{OpensNothing}
use Rattle.show_laws.proofs.counts.ManyFrames.{many, unit}
use Rattle.show_laws.proofs.lines.CapturedFrames.{both_ways, came_few}
use Rattle.show_laws.proofs.openings.BothOpen.{data_gated}
use Rattle.show_laws.proofs.openings.ClosersBehindSabm.{driver_unclosed, modem_unclosed, unclosed_yet}
use Rattle.show_laws.proofs.openings.DiscBehindUa.{once_many}
use Rattle.show_laws.proofs.openings.DriverFollows.{sent_closed}
use Rattle.show_laws.proofs.openings.DriverOpen.{IsOnceLine, data_no_ending, ends_by, follows, none_filtered, once_line_before, sent_counts}
use Rattle.show_laws.proofs.openings.ModemCloses.{closer, none_closed, untouched}
use Rattle.show_laws.proofs.openings.QuietFrames.{asked_at, open_at, zero_at}
use Rattle.show_laws.proofs.talks.SilentChannels.{Under, UnderM, carried_data, gate_open}

-- the driver, which asked for it, has it neither open nor asked for, and what closes it was sent by the modem, or came to it
pub record IsEnded (e : ℕ) (line : List LineAct) : Type 0 where
  pub asked : 1 ≤ many (is_on Sabm e) (frames_sent (wire (driver_past line)))
  pub shut : open_at e (wire (driver_past line)) ≡ false
  pub unasked : asked_at e (wire (driver_past line)) ≡ false
  pub closed : 1 ≤ many (closer e) (frames_sent (modem_past line)) + many (closer e) (frames_got (modem_past line))

some_when : (m c : ℕ) → 1 ≤ c → (m ≤ 0 → c ≤ 0) → 1 ≤ m
some_when zero c h k = let x = k (omega arith) in absurd (omega (arith, h, x))
some_when (suc m) c h k = omega arith

-- ## It stays so

abbrev Neither : ℕ → List station.Act → Type 0
Neither e p = (open_at e p ≡ false) × (asked_at e p ≡ false)

off : (a b : Bool) → a ≡ false → (a && b) ≡ false
off true b k = cc
off false b k = refl

second_off : (a b : Bool) → b ≡ false → (a && b) ≡ false
second_off true b k = k
second_off false b k = refl

-- what the driver asked for, and has neither open nor asked for, stays so, where it asks once
pub driver_stays : (e : ℕ) (a : driver.Act) (past : List driver.Act) → AsksOnce (wire (a ∷ past)) → 1 ≤ many (is_on Sabm e) (frames_sent (wire past)) → Neither e (wire past) → Neither e (wire (a ∷ past))
driver_stays e (driver.Sent f) past once some n = sent_closed e f (wire past) n.0 n.1 (by_sabm (is_on Sabm e f) refl)
  where
    by_sabm : (b : Bool) → is_on Sabm e f ≡ b → b ≡ false
    by_sabm false k = refl
    by_sabm true k = let x = none_filtered (is_on Sabm e) (frames_sent (wire past)) (asked_first e f (frames_sent (wire past)) (once e) k) in absurd (omega (arith, x, some))
driver_stays e (driver.Got f) past once some n =
    let p = wire past in (
      is_open_after Initiator e p (station.Got f)
          ∙ or_from (is_on Ua e f && asked_at e p) (open_at e p && not (ends (zero_at e p) e (station.Got f))) (second_off (is_on Ua e f) (asked_at e p) n.1) (off (open_at e p) (not (ends (zero_at e p) e (station.Got f))) n.0),
      off (asked_at e p) (not (is_mode_frame_on e f || ends (zero_at e p) e (station.Got f))) n.1,
    )
driver_stays e driver.Tick past once some n =
    let p = wire past in
    (is_open_after Initiator e p station.Tick ∙ off (open_at e p) (not (ends (zero_at e p) e station.Tick)) n.0, off (asked_at e p) (not (ends (zero_at e p) e station.Tick)) n.1)
driver_stays e driver.Lost past once some n =
    let p = wire past in
    (is_open_after Initiator e p station.Lost ∙ off (open_at e p) (not (ends (zero_at e p) e station.Lost)) n.0, off (asked_at e p) (not (ends (zero_at e p) e station.Lost)) n.1)
driver_stays e driver.Given past once some n =
    let p = wire past in
    (is_open_after Initiator e p station.Given ∙ off (open_at e p) (not (ends (zero_at e p) e station.Given)) n.0, off (asked_at e p) (not (ends (zero_at e p) e station.Given)) n.1)
driver_stays e (driver.Took q) past once some n = n
driver_stays e (driver.Told o) past once some n = n
driver_stays e (driver.Heard u d l) past once some n = n
driver_stays e (driver.Held d) past once some n = n
driver_stays e (driver.Freed d) past once some n = n

more_sent : (t : Frame → Bool) (a : driver.Act) (past : List driver.Act) → many t (frames_sent (wire past)) ≤ many t (frames_sent (wire (a ∷ past)))
more_sent t (driver.Sent f) past = omega arith
more_sent t (driver.Took q) past = omega arith
more_sent t (driver.Got f) past = omega arith
more_sent t (driver.Told o) past = omega arith
more_sent t (driver.Heard u e l) past = omega arith
more_sent t driver.Tick past = omega arith
more_sent t driver.Lost past = omega arith
more_sent t (driver.Held e) past = omega arith
more_sent t (driver.Freed e) past = omega arith
more_sent t driver.Given past = omega arith

more_passed : (t : Frame → Bool) (a : station.Act) (past : List station.Act) → many t (frames_sent past) + many t (frames_got past) ≤ many t (frames_sent (a ∷ past)) + many t (frames_got (a ∷ past))
more_passed t (station.Sent f) past = omega arith
more_passed t (station.Got f) past = omega arith
more_passed t (station.Called c) past = omega arith
more_passed t station.Tick past = omega arith
more_passed t station.Lost past = omega arith
more_passed t station.Given past = omega arith

-- so what is ended stays ended
pub ended_stays : (e : ℕ) (x : LineAct) (line : List LineAct) → AsksOnce (wire (driver_past (x ∷ line))) → IsEnded e line → IsEnded e (x ∷ line)
ended_stays e (AtDriver a) line once h =
    let n = driver_stays e a (driver_past line) once h.asked (h.shut, h.unasked) in
    let m = more_sent (is_on Sabm e) a (driver_past line) in
    let k = h.asked in
    record { asked = omega (arith, m, k); shut = n.0; unasked = n.1; closed = h.closed }
ended_stays e (AtModem a) line once h =
    let m = more_passed (closer e) a (modem_past line) in
    let k = h.closed in
    record { asked = h.asked; shut = h.shut; unasked = h.unasked; closed = omega (arith, m, k) }

-- ## A modem that opens none

-- a modem that opened none had opened none before
pub opens_before : (a : station.Act) (past : List station.Act) → OpensNothing (a ∷ past) → OpensNothing past
opens_before (station.Sent f) past h = (or_parts (is_kind f.kind Sabm) (list_any (λ g. is_kind g.kind Sabm) (frames_sent past)) h).1
opens_before (station.Called c) past h = h
opens_before (station.Got f) past h = h
opens_before station.Tick past h = h
opens_before station.Lost past h = h
opens_before station.Given past h = h

-- where no SABM was sent none on e was
pub no_sabms : (e : ℕ) (fs : List Frame) → list_any (λ g. is_kind g.kind Sabm) fs ≡ false → many (is_on Sabm e) fs ≤ 0
no_sabms e [] h = omega arith
no_sabms e (f ∷ fs) h =
    let p = or_parts (is_kind f.kind Sabm) (list_any (λ g. is_kind g.kind Sabm) fs) h in
    let x : unit (is_on Sabm e f) ≡ 0 = ap unit (and_left (is_kind f.kind Sabm) (f.dlci == e) p.0) in
    let y = no_sabms e fs p.1 in
    omega (arith, x, y)

-- ## No data is sent any more

-- where e is ended, and d open only while e is, the driver sends no data on d
pub driver_says_none : (s : Setting) (n1 d e : ℕ) (f : Frame) (line : List LineAct) → Under s d e → IsOnceLine s n1 (AtDriver (driver.Sent f) ∷ line) → IsEnded e line → carries d f ≡ true → ⊥
driver_says_none s n1 d e f line up h ended carry =
    let k = once_line_before s n1 (AtDriver (driver.Sent f)) line h in
    let o = (while_open s (driver.Sent f ∷ driver_past line) h.lawful.is_initiator h.lawful.driver_lawful).0 d carry in
    let t : true ≡ false = sym (up (driver_past line) k.lawful.driver_lawful o) ∙ ended.shut in cc

-- nor does the modem, if it opens none
pub modem_says_none : (s : Setting) (n1 d e : ℕ) (f : Frame) (line : List LineAct) → UnderM d e → IsOnceLine s n1 (AtModem (station.Sent f) ∷ line) → OpensNothing (modem_past line) → IsEnded e line → carries d f ≡ true → ⊥
modem_says_none s n1 d e f line up h opens_none ended carry =
    let k = once_line_before s n1 (AtModem (station.Sent f)) line h in
    let c = carried_data d f carry in
    let o = gate_open n1 d e (modem_past line) f up (data_gated n1 (modem_past line) f h.lawful.modem_lawful c.0) c.1 in
    let sent = once_many (is_on Sabm e) (frames_sent (wire (driver_past line))) in
    let once = k.once e in
    let came = came_few (is_on Sabm e) (wire (driver_past line)) (modem_past line) (both_ways line k.lawful.one_line).at_modem in
    let x = none_closed n1 e (modem_past line) k.lawful.modem_lawful (omega (arith, sent, once, came)) (no_sabms e (frames_sent (modem_past line)) opens_none) o in
    let y = modem_unclosed s n1 e line k o in
    let z = ended.closed in
    omega (arith, x, y, z)

-- ## How it ends

-- the modem closed it, and the driver answers
pub driver_ended : (s : Setting) (n1 e : ℕ) (stamps : ℕ → Stamp) (f : Frame) (line : List LineAct) → IsOnceLine s n1 (AtDriver (driver.Sent f) ∷ line) → OpensNothing (modem_past line) → ends_by e f ≡ true
    → 1 ≤ many (closer e) (frames_sent (modem_past line)) → IsEnded e line
unfolding Lawful
driver_ended s n1 e stamps f line h opens_none ending some =
    let k = once_line_before s n1 (AtDriver (driver.Sent f)) line h in
    let past = driver_past line in
    let counts = sent_counts s e (ends_by e) (ends_by e) past f (is_data_frame f) refl (λ is. plain is) h.lawful.driver_lawful.0.controlled in
    let one : unit (ends_by e f) ≡ 1 = ap unit ending in
    let n = (follows s n1 e stamps line k).owes (omega (arith, counts, one)) in
    let got = some_when (many (is_on Sabm e) (frames_got (modem_past line))) (many (closer e) (frames_sent (modem_past line))) some (λ none. (untouched n1 e (modem_past line) k.lawful.modem_lawful none (no_sabms e (frames_sent (modem_past line)) opens_none)).sent_none) in
    let came = came_few (is_on Sabm e) (wire past) (modem_past line) (both_ways line k.lawful.one_line).at_modem in
    record { asked = omega (arith, got, came); shut = n.0; unasked = n.1; closed = omega (arith, some) }
  where
    turned : (b : Bool) → not b ≡ true → b ≡ false
    turned false k = refl
    turned true k = cc

    plain : is_data_frame f ≡ true → ends_by e f ≡ false
    plain is =
        let p = and_parts (is_kind f.kind Uih) (not (f.dlci == 0)) is in
        data_no_ending f.kind ((f.dlci == e) || (f.dlci == 0)) (f.dlci == 0) (octet_is command_of cld (message_of f.info)) p.0 (turned (f.dlci == 0) p.1)

-- the driver closed it, which came to the modem
pub modem_ended : (s : Setting) (n1 e : ℕ) (line : List LineAct) → IsOnceLine s n1 line → 1 ≤ many (closer e) (frames_got (modem_past line)) → IsEnded e line
modem_ended s n1 e line h some =
    let p = wire (driver_past line) in
    let came = came_few (closer e) p (modem_past line) (both_ways line h.lawful.one_line).at_modem in
    let n = or_parts (open_at e p) (asked_at e p) (by_up (open_at e p || asked_at e p) refl (omega (arith, some, came))) in
    record {
      asked = some_when (many (is_on Sabm e) (frames_sent p)) (many (closer e) (frames_sent p)) (omega (arith, some, came)) (λ none. unclosed_yet s n1 e line h none);
      shut = n.0;
      unasked = n.1;
      closed = omega (arith, some);
    }
  where
    by_up : (b : Bool) → (open_at e (wire (driver_past line)) || asked_at e (wire (driver_past line))) ≡ b → 1 ≤ many (closer e) (frames_sent (wire (driver_past line))) → b ≡ false
    by_up false k sent = refl
    by_up true k sent = let x = driver_unclosed s n1 e line h k in absurd (omega (arith, x, sent))
