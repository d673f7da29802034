-- A line on which commands are answered, at each of its points; and that what begins a connection afresh comes before any data on it, or behind
-- all of it.
use Rattle.std.specs.Prelude.{◌≡◌, zero, suc, ℕ, ◌/◌, ◌%◌, ◌==◌, ◌≤◌, ◌&&◌, ◌||◌, not, Bool, true, false, List, [], ◌∷◌, Option, Some, None, refl, if◌then◌else◌}
use Rattle.std.specs.List.{list_all, list_any}
use Rattle.std.proofs.Common.{ap, arith, sym, ◌∙◌, eqb-true}
use Rattle.std.proofs.lemmas.Bool.{and_from, and_parts, or_left, or_parts, or_right}
use Rattle.mux_frame.specs.Frames.{Frame}
use Rattle.mux_frame.specs.declared.frame.Kind.{Kind}
use Rattle.mux_frame.specs.declared.frame.Kind.TheVariants.{Sabm, Ua, Dm, Uih}
use Rattle.mux_capture.specs.declared.packet.Stamp.{Stamp}
use Rattle.mux_station.specs.declared.role.Role.TheVariants.{Responder}
use Rattle.mux_station.specs.Acts as station
use Rattle.mux_station.specs.Messages.{Message, brings_command, brings_response, cld, command_of, message_in, message_of, octet_is}
use Rattle.mux_station.specs.Written.{is_kind, is_on}
use Rattle.modem_history.specs.Acts as driver
use Rattle.modem_history.specs.Acts.{wire}
use Rattle.modem_history.specs.Calls.{Setting}
use Rattle.modem_history.specs.TwoEnds.{frames_got, frames_sent}
use Rattle.modem_history.proofs.commands.FramesOnLine.{asked_first, info_in}
use Rattle.modem_show.specs.Asking.{answers, is_answer, is_mode_answer, message_answers}
use Rattle.modem_show.specs.Talking.{closes_all, is_close, is_turn_on, starts_afresh}
use Rattle.one_modem.proofs.two_ends.LinePoints.{fewer_lines}
use Rattle.show_laws.specs.Lines.{AtDriver, AtModem, LineAct, driver_past, modem_past, responding}
use Rattle.show_laws.specs.Talks.{IsTalkingLine}
use Rattle.show_laws.proofs.asks.AnswerShapes.{is_alike, is_shaped, or_elim}
use Rattle.show_laws.proofs.asks.AnswersCalled.{AnyProbe, answers_balanced}
use Rattle.show_laws.proofs.asks.NoneUnasked.{any_probes, driver_shaped, modem_shaped, self_alike}
use Rattle.show_laws.proofs.counts.ManyFrames.{many, unit}
use Rattle.show_laws.proofs.counts.DriverCounts.{driver_sends}
use Rattle.show_laws.proofs.counts.StationCounts.{station_sends}
use Rattle.show_laws.proofs.lines.CapturedFrames.{both_ways, came_few}
use Rattle.show_laws.proofs.lines.EveryFrame.{lawful_before}
use Rattle.show_laws.proofs.openings.DiscBehindUa.{once_many}
use Rattle.show_laws.proofs.openings.DriverOpen.{IsOnceLine, none_filtered, once_before}
use Rattle.show_laws.proofs.openings.ModemAnswers.{answer_on, ask_on, uas_fewer}
use Rattle.show_laws.proofs.openings.ModemOpen.{asks_parts}
use Rattle.show_laws.proofs.openings.ResponderCalls.{answer_balanced, down_answers, is_down}
use Rattle.show_laws.proofs.openings.ModeAnswers.{is_ending}
use Rattle.show_laws.proofs.openings.ModemCloses.{clds_closed, discs_closed}
use Rattle.show_laws.proofs.talks.EndedLines.{IsEnded, driver_ended, modem_ended, no_sabms, opens_before}
use Rattle.show_laws.proofs.talks.SilentChannels.{Under, UnderM, before_sabm, before_sabm_m, before_ua, before_ua_m}

-- ## Each point

-- it was such a line before its newest act
pub talking_before : (s : Setting) (n1 : ℕ) (x : LineAct) (line : List LineAct) → IsTalkingLine s n1 (x ∷ line) → IsTalkingLine s n1 line
talking_before s n1 (AtDriver a) line h = record {
  lawful = lawful_before s n1 (AtDriver a) line h.lawful;
  once = once_before a (driver_past line) h.once;
  opens_none = h.opens_none;
  commands = fewer_lines a (driver_past line) h.commands;
  apart = h.apart;
  answers = h.answers;
}
talking_before s n1 (AtModem a) line h = record {
  lawful = lawful_before s n1 (AtModem a) line h.lawful;
  once = h.once;
  opens_none = opens_before a (modem_past line) h.opens_none;
  commands = h.commands;
  apart = h.apart;
  answers = h.answers.1;
}

-- ## Answers to what wasn't sent

-- the response to a CLD is an answer
pub down_is_answer : (f : Frame) → brings_response cld f ≡ true → is_answer f ≡ true
down_is_answer f down = or_right (is_mode_answer f) (message_answers (message_in f)) (by_read (message_in f) there)
  where
    there : octet_is command_of cld (message_in f) ≡ true
    there =
        let p = and_parts (is_on Uih 0 f) (octet_is command_of cld (message_of f.info)) down in
        ap (λ (b : Bool). octet_is command_of cld (if b then message_of f.info else None)) p.0 ∙ p.1

    by_octet : (o : ℕ) → command_of o ≡ cld → not ((o / 2) % 2 == 1) ≡ true
    by_octet o e = let z : o ≡ 0xc1 = omega (arith, e) in ap (λ n. not ((n / 2) % 2 == 1)) z

    by_read : (o : Option Message) → octet_is command_of cld o ≡ true → message_answers o ≡ true
    by_read None k = cc
    by_read (Some m) k = by_octet m.octet (eqb-true (command_of m.octet) cld k)

-- so where no CLD came none is sent
no_down : (f : Frame) (sent got asked : List Frame) → list_all is_shaped (f ∷ sent) ≡ true → many (is_alike f) (f ∷ sent) ≤ many (λ x. answers x f) got → many (λ x. answers x f) got ≤ many (λ x. answers x f) asked
    → many (brings_command cld) asked ≤ 0 → brings_response cld f ≡ true → ⊥
no_down f sent got asked shaped few came none down =
    let shape = (and_parts (is_shaped f) (list_all is_shaped sent) shaped).0 in
    let one : unit (is_alike f f) ≡ 1 = ap unit (self_alike f (down_is_answer f down)) in
    let fewer = each asked shape in
    omega (arith, few, came, none, one, fewer)
  where
    each : (fs : List Frame) → is_shaped f ≡ true → many (λ x. answers x f) fs ≤ many (brings_command cld) fs
    each [] shape = omega arith
    each (x ∷ fs) shape = let y = each fs shape in let z = by_test (answers x f) refl in omega (arith, y, z)
      where
        by_test : (b : Bool) → answers x f ≡ b → unit (answers x f) ≤ unit (brings_command cld x)
        by_test false e = let u : unit (answers x f) ≡ 0 = ap unit e in omega (arith, u)
        by_test true e = let u : unit (answers x f) ≡ 1 = ap unit e in let v : unit (brings_command cld x) ≡ 1 = ap unit (down_answers x f shape down e) in omega (arith, u, v)

-- the driver asks for each connection once there
pub talking_asked : (s : Setting) (n1 : ℕ) (line : List LineAct) → IsTalkingLine s n1 line → IsOnceLine s n1 line
talking_asked s n1 line h = record { lawful = h.lawful; once = h.once }

-- ## What begins a connection afresh

turned_by : {P : Type 0} → (answered : Option Kind) (e : ℕ) (f : Frame) → (is_on Sabm e f ≡ true → P) → (answer_on e f ≡ true → P) → is_turn_on answered e f ≡ true → P
turned_by answered e f sabm answer h =
    or_elim (is_on Sabm e f) ((is_on Ua e f && is_close answered) || is_on Dm e f) h sabm
    (λ k. or_elim (is_on Ua e f && is_close answered) (is_on Dm e f) k
    (λ u. let p = and_parts (is_kind f.kind Ua) (f.dlci == e) (and_parts (is_on Ua e f) (is_close answered) u).0 in answer (and_from (is_mode_answer f) (f.dlci == e) (or_left (is_kind f.kind Ua) (is_kind f.kind Dm) p.0) p.1))
    (λ m. let p = and_parts (is_kind f.kind Dm) (f.dlci == e) m in answer (and_from (is_mode_answer f) (f.dlci == e) (or_right (is_kind f.kind Ua) (is_kind f.kind Dm) p.0) p.1)))

afresh_by : {P : Type 0} → (answered : Option Kind) (d : ℕ) (f : Frame) → (is_on Sabm 0 f ≡ true → P) → (answer_on 0 f ≡ true → P) → (is_on Sabm d f ≡ true → P) → (answer_on d f ≡ true → P)
    → (brings_response cld f ≡ true → P) → starts_afresh answered d f ≡ true → P
afresh_by answered d f s0 a0 sd ad down h =
    or_elim (closes_all answered f) (is_turn_on answered d f) h
    (λ k. or_elim (is_turn_on answered 0 f) (brings_response cld f) k (turned_by answered 0 f s0 a0) down) (turned_by answered d f sd ad)

-- no data was sent before on d
pub record IsSilent (d : ℕ) (line : List LineAct) : Type 0 where
  pub driver : info_in d (frames_sent (wire (driver_past line))) ≡ []
  pub modem : info_in d (frames_sent (modem_past line)) ≡ []

-- either no data was sent on d, or d or 0 ended for good
pub data IsFresh (s : Setting) (d : ℕ) (line : List LineAct) : Type 0 where
  quiet : IsSilent d line → IsFresh s d line
  past_it : (e : ℕ) → Under s d e → UnderM d e → IsEnded e line → IsFresh s d line

some_of : (n : ℕ) → (n ≤ 0 → ⊥) → 1 ≤ n
some_of zero k = absurd (k (omega arith))
some_of (suc n) k = omega arith

-- the driver asks for a connection, for the first time
driver_sabm : (s : Setting) (n1 d e : ℕ) (f : Frame) (line : List LineAct) → Under s d e → UnderM d e → IsTalkingLine s n1 (AtDriver (driver.Sent f) ∷ line) → is_on Sabm e f ≡ true → IsSilent d line
driver_sabm s n1 d e f line up upm h is =
    let k = talking_before s n1 (AtDriver (driver.Sent f)) line h in
    let sent = frames_sent (wire (driver_past line)) in
    let first = none_filtered (is_on Sabm e) sent (asked_first e f sent (h.once e) is) in
    let came = came_few (is_on Sabm e) (wire (driver_past line)) (modem_past line) (both_ways line k.lawful.one_line).at_modem in
    record {
      driver = before_sabm s d e (driver_past line) k.lawful.is_initiator up k.lawful.driver_lawful first;
      modem = before_sabm_m n1 d e (modem_past line) upm k.lawful.modem_lawful (omega (arith, first, came));
    }

-- the driver answers what closes a connection
driver_answer : (s : Setting) (n1 e : ℕ) (stamps : ℕ → Stamp) (f : Frame) (line : List LineAct) → IsTalkingLine s n1 (AtDriver (driver.Sent f) ∷ line) → answer_on e f ≡ true → IsEnded e line
driver_answer s n1 e stamps f line h is =
    let past = driver.Sent f ∷ driver_past line in
    let fs = frames_sent (modem_past line) in
    let sent = driver_sends AnyProbe s (answer_on e) (ask_on e) (answer_balanced s.n1 s.role e) past h.lawful.driver_lawful (any_probes past) in
    let came = came_few (ask_on e) (modem_past line) (wire past) (both_ways (AtDriver (driver.Sent f) ∷ line) h.lawful.one_line).at_driver in
    let parts = asks_parts e fs in
    let sabms = no_sabms e fs h.opens_none in
    let discs = discs_closed e fs in
    let one : unit (answer_on e f) ≡ 1 = ap unit is in
    let p = and_parts (is_mode_answer f) (f.dlci == e) is in
    driver_ended s n1 e stamps f line (talking_asked s n1 (AtDriver (driver.Sent f) ∷ line) h) h.opens_none
    (or_left (is_ending e f) (is_down f) (and_from (is_mode_answer f) ((f.dlci == e) || (f.dlci == 0)) p.0 (or_left (f.dlci == e) (f.dlci == 0) p.1))) (omega (arith, sent, came, parts, sabms, discs, one))

driver_down : (s : Setting) (n1 : ℕ) (stamps : ℕ → Stamp) (f : Frame) (line : List LineAct) → IsTalkingLine s n1 (AtDriver (driver.Sent f) ∷ line) → brings_response cld f ≡ true → IsEnded 0 line
driver_down s n1 stamps f line h down =
    let past = driver.Sent f ∷ driver_past line in
    let fs = frames_sent (modem_past line) in
    let some = some_of (many (brings_command cld) fs) (λ none.
    no_down f (frames_sent (wire (driver_past line))) (frames_got (wire (driver_past line))) fs (driver_shaped s past h.lawful.driver_lawful)
    (driver_sends AnyProbe s (is_alike f) (λ x. answers x f) (answers_balanced s.n1 s.role f (down_is_answer f down)) past h.lawful.driver_lawful (any_probes past))
    (came_few (λ x. answers x f) (modem_past line) (wire (driver_past line)) (both_ways line h.lawful.one_line.1).at_driver) none down) in
    let all = clds_closed fs in
    driver_ended s n1 0 stamps f line (talking_asked s n1 (AtDriver (driver.Sent f) ∷ line) h) h.opens_none (or_right (is_ending 0 f) (is_down f) down) (omega (arith, some, all))

modem_sabm : (s : Setting) (n1 e : ℕ) (f : Frame) (line : List LineAct) → IsTalkingLine s n1 (AtModem (station.Sent f) ∷ line) → is_on Sabm e f ≡ true → ⊥
modem_sabm s n1 e f line h is =
    let off = (or_parts (is_kind f.kind Sabm) (list_any (λ g. is_kind g.kind Sabm) (frames_sent (modem_past line))) h.opens_none).0 in
    let t : true ≡ false = sym (and_parts (is_kind f.kind Sabm) (f.dlci == e) is).0 ∙ off in cc

-- the modem's first answer on a connection, and each other one
modem_answer : (s : Setting) (n1 d e : ℕ) (f : Frame) (line : List LineAct) → Under s d e → UnderM d e → IsTalkingLine s n1 (AtModem (station.Sent f) ∷ line) → answer_on e f ≡ true → IsFresh s d line
modem_answer s n1 d e f line up upm h is = by_first (many (is_on Ua e) (frames_sent (modem_past line))) refl
  where
    k : IsTalkingLine s n1 line
    k = talking_before s n1 (AtModem (station.Sent f)) line h

    by_first : (n : ℕ) → many (is_on Ua e) (frames_sent (modem_past line)) ≡ n → IsFresh s d line
    by_first zero none =
        let back = came_few (is_on Ua e) (modem_past line) (wire (driver_past line)) (both_ways line k.lawful.one_line).at_driver in
        quiet (record {
          driver = before_ua s d e (driver_past line) k.lawful.is_initiator up k.lawful.driver_lawful (omega (arith, none, back));
          modem = before_ua_m n1 d e (modem_past line) upm k.lawful.modem_lawful (omega (arith, none));
        })
    by_first (suc n) some =
        let past = station.Sent f ∷ modem_past line in
        let got = frames_got (modem_past line) in
        let sent = station_sends AnyProbe (responding n1) (answer_on e) (ask_on e) (answer_balanced n1 Responder e) past h.lawful.modem_lawful in
        let parts = asks_parts e got in
        let came = came_few (is_on Sabm e) (wire (driver_past line)) (modem_past line) (both_ways line k.lawful.one_line).at_modem in
        let few = once_many (is_on Sabm e) (frames_sent (wire (driver_past line))) in
        let once = k.once e in
        let discs = discs_closed e got in
        let one : unit (answer_on e f) ≡ 1 = ap unit is in
        let uas = uas_fewer e (frames_sent (modem_past line)) in
        past_it e up upm (modem_ended s n1 e line (talking_asked s n1 line k) (omega (arith, sent, parts, came, few, once, discs, one, uas, some)))

modem_down : (s : Setting) (n1 : ℕ) (f : Frame) (line : List LineAct) → IsTalkingLine s n1 (AtModem (station.Sent f) ∷ line) → brings_response cld f ≡ true → IsEnded 0 line
modem_down s n1 f line h down =
    let past = station.Sent f ∷ modem_past line in
    let got = frames_got (modem_past line) in
    let some = some_of (many (brings_command cld) got) (λ none.
    no_down f (frames_sent (modem_past line)) got got (modem_shaped n1 past h.lawful.modem_lawful)
    (station_sends AnyProbe (responding n1) (is_alike f) (λ x. answers x f) (answers_balanced n1 Responder f (down_is_answer f down)) past h.lawful.modem_lawful)
    (omega arith) none down) in
    let all = clds_closed got in
    modem_ended s n1 0 line (talking_asked s n1 line (talking_before s n1 (AtModem (station.Sent f)) line h)) (omega (arith, some, all))

-- where a frame of the driver begins d afresh, no data was sent on d before, or d or 0 ended for good
pub driver_afresh : (s : Setting) (n1 d : ℕ) (stamps : ℕ → Stamp) (f : Frame) (line : List LineAct) (answered : Option Kind) → Under s d 0 → UnderM d 0 → IsTalkingLine s n1 (AtDriver (driver.Sent f) ∷ line) → starts_afresh answered d f ≡ true → IsFresh s d line
driver_afresh s n1 d stamps f line answered up upm h =
    afresh_by answered d f (λ k. quiet (driver_sabm s n1 d 0 f line up upm h k)) (λ k. past_it 0 up upm (driver_answer s n1 0 stamps f line h k)) (λ k. quiet (driver_sabm s n1 d d f line (λ p l o. o) (λ p o. o) h k))
    (λ k. past_it d (λ p l o. o) (λ p o. o) (driver_answer s n1 d stamps f line h k)) (λ k. past_it 0 up upm (driver_down s n1 stamps f line h k))

-- so it is where one of the modem does
pub modem_afresh : (s : Setting) (n1 d : ℕ) (f : Frame) (line : List LineAct) (answered : Option Kind) → Under s d 0 → UnderM d 0 → IsTalkingLine s n1 (AtModem (station.Sent f) ∷ line) → starts_afresh answered d f ≡ true → IsFresh s d line
modem_afresh s n1 d f line answered up upm h =
    afresh_by answered d f (λ k. absurd (modem_sabm s n1 0 f line h k)) (modem_answer s n1 d 0 f line up upm h) (λ k. absurd (modem_sabm s n1 d f line h k)) (modem_answer s n1 d d f line (λ p l o. o) (λ p o. o) h)
    (λ k. past_it 0 up upm (modem_down s n1 f line h k))
