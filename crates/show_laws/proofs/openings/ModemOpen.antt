-- The driver's SABM waits for the first UA or DM on its connection. While a connection of the modem is open 0 is too.
use Rattle.std.specs.Prelude.{◌≡◌, ℕ, ◌+◌, ◌==◌, ◌≤◌, ◌&&◌, ◌||◌, not, Bool, true, false, List, [], ◌∷◌, ◌++◌, length, map, refl}
use Rattle.std.proofs.Common.{ap, arith, sym, ◌∙◌, eqb-true}
use Rattle.std.proofs.lemmas.Bool.{and_parts}
use Rattle.mux_frame.specs.Frames.{Frame}
use Rattle.mux_frame.specs.declared.frame.Kind.{Kind}
use Rattle.mux_frame.specs.declared.frame.Kind.TheVariants.{Sabm, Ua, Dm, Disc, Uih}
use Rattle.mux_capture.specs.declared.packet.Stamp.{Stamp}
use Rattle.mux_capture.specs.Passing.{Caught}
use Rattle.mux_station.specs.declared.role.Role.TheVariants.{Initiator, Responder}
use Rattle.mux_station.specs.Acts as station
use Rattle.mux_station.specs.Messages.{cld, message_of, octet_is}
use Rattle.mux_station.specs.Opening.{ends}
use Rattle.mux_station.proofs.states.OpeningSteps.{is_open_after}
use Rattle.mux_station.specs.Written.{is_kind, is_on}
use Rattle.modem_history.specs.Acts as driver
use Rattle.modem_history.specs.Acts.{wire}
use Rattle.modem_history.specs.Calls.{Setting}
use Rattle.modem_history.specs.TwoEnds.{frames_sent}
use Rattle.modem_show.specs.Asking.{asked_with, excused_by, unanswered_by, waiting}
use Rattle.show_laws.specs.Lines.{AtDriver, LineAct, captured, driver_past, modem_past}
use Rattle.show_laws.proofs.asks.AnswerShapes.{or_elim}
use Rattle.show_laws.proofs.asks.WaitingAsks.{frames_of, frames_to}
use Rattle.show_laws.proofs.counts.ManyFrames.{many, unit}
use Rattle.show_laws.proofs.lines.CapturedFrames.{both_ways, came_few, shows}
use Rattle.show_laws.proofs.lines.EveryFrame.{over}
use Rattle.show_laws.proofs.openings.DiscBehindUa.{disc_behind}
use Rattle.show_laws.proofs.openings.DriverOpen.{IsOnceLine, once_line_before}
use Rattle.show_laws.proofs.openings.FreshAsks.{Fresh, other_answers, other_asks, sabm_asks}
use Rattle.show_laws.proofs.openings.ModemAnswers.{answer_on, ask_on, open_m, uas_fewer, zero_m}
use Rattle.show_laws.proofs.openings.QuietFrames.{itself_zero, kept_zero, unended}
use Rattle.show_laws.proofs.openings.UaBehindSabm.{none_of}

-- ## Counts

-- each SABM or DISC on d is one of them
pub asks_parts : (d : ℕ) (fs : List Frame) → many (ask_on d) fs ≤ many (is_on Sabm d) fs + many (is_on Disc d) fs
asks_parts d [] = omega arith
asks_parts d (f ∷ fs) = let x = parts (is_kind f.kind Sabm) (is_kind f.kind Disc) (f.dlci == d) in let y = asks_parts d fs in omega (arith, x, y)
  where
    parts : (a b c : Bool) → unit ((a || b) && c) ≤ unit (a && c) + unit (b && c)
    parts true b c = omega arith
    parts false b c = omega arith

-- a DISC was sent behind the modem's UA
disc_after : (s : Setting) (n1 d : ℕ) (line : List LineAct) → IsOnceLine s n1 line → 1 ≤ many (is_on Disc d) (frames_sent (wire (driver_past line))) → 1 ≤ many (is_on Ua d) (frames_sent (modem_past line))
disc_after s n1 d line h some =
    let got = disc_behind s d (driver_past line) h.lawful.is_initiator h.lawful.driver_lawful h.once some in
    let came = came_few (is_on Ua d) (modem_past line) (wire (driver_past line)) (both_ways line h.lawful.one_line).at_driver in
    omega (arith, got, came)

-- ## The unanswered SABM

abbrev HasFresh : ℕ → List Caught → Type 0
HasFresh d line = 1 ≤ many (is_on Sabm d) (frames_of Initiator line) → many (answer_on d) (frames_to Initiator line) ≤ 0 → Fresh d (waiting Initiator line)

driver_fresh : (s : Setting) (n1 d : ℕ) (stamps : ℕ → Stamp) (stamp : Stamp) (f : Frame) (line : List LineAct) → IsOnceLine s n1 (AtDriver (driver.Sent f) ∷ line) → HasFresh d (captured stamps line)
    → 1 ≤ unit (is_on Sabm d f) + many (is_on Sabm d) (frames_of Initiator (captured stamps line)) → many (answer_on d) (frames_to Initiator (captured stamps line)) ≤ 0
    → Fresh d (map (excused_by (station.Sent f)) (asked_with stamp f ++ waiting Initiator (captured stamps line)))
driver_fresh s n1 d stamps stamp f line h q some none = by_sabm (is_on Sabm d f) refl
  where
    asks_disc : is_on Sabm d f ≡ false → ask_on d f ≡ true → 1 ≤ unit (is_on Disc d f)
    asks_disc e a = by (is_kind f.kind Sabm) (is_kind f.kind Disc) (f.dlci == d) e a
      where
        by : (a b c : Bool) → (a && c) ≡ false → ((a || b) && c) ≡ true → 1 ≤ unit (b && c)
        by true b true e h = cc
        by true b false e h = cc
        by false true true e h = omega arith
        by false true false e h = cc
        by false false c e h = cc

    no_ask : (b : Bool) → ask_on d f ≡ b → is_on Sabm d f ≡ false → ask_on d f ≡ false
    no_ask false e k = e
    no_ask true e k =
        let x = asks_disc k e in
        let ua = disc_after s n1 d (AtDriver (driver.Sent f) ∷ line) h (omega (arith, x)) in
        let few = uas_fewer d (frames_sent (modem_past line)) in
        let same : many (answer_on d) (frames_to Initiator (captured stamps line)) ≡ many (answer_on d) (frames_sent (modem_past line)) = ap (many (answer_on d)) (shows stamps line).to_driver in
        absurd (omega (arith, ua, few, same, none))

    by_sabm : (b : Bool) → is_on Sabm d f ≡ b → Fresh d (map (excused_by (station.Sent f)) (asked_with stamp f ++ waiting Initiator (captured stamps line)))
    by_sabm true e = sabm_asks d stamp f (waiting Initiator (captured stamps line)) e
    by_sabm false e =
        let x : unit (is_on Sabm d f) ≡ 0 = ap unit e in
        other_asks d stamp f (waiting Initiator (captured stamps line)) (no_ask (ask_on d f) refl e) (q (omega (arith, some, x)) none)

modem_fresh : (d : ℕ) (stamps : ℕ → Stamp) (f : Frame) (line : List LineAct) → HasFresh d (captured stamps line)
    → 1 ≤ many (is_on Sabm d) (frames_of Initiator (captured stamps line)) → unit (answer_on d f) + many (answer_on d) (frames_to Initiator (captured stamps line)) ≤ 0
    → Fresh d (map (excused_by (station.Got f)) (unanswered_by f (waiting Initiator (captured stamps line))))
modem_fresh d stamps f line q some none =
    other_answers d f (waiting Initiator (captured stamps line)) (none_of (answer_on d) f (many (answer_on d) (frames_to Initiator (captured stamps line))) none) (q some (omega (arith, none)))

-- a SABM on d that the driver sent waits for the first UA or DM on d, while none was sent
pub has_fresh : (s : Setting) (n1 d : ℕ) (stamps : ℕ → Stamp) (line : List LineAct) → IsOnceLine s n1 line → HasFresh d (captured stamps line)
has_fresh s n1 d stamps line h =
    over (IsOnceLine s n1) (λ x line k. once_line_before s n1 x line k) (HasFresh d) stamps (λ some none. absurd (omega (arith, some)))
    (λ f line k q some none. driver_fresh s n1 d stamps (stamps (length (captured stamps line))) f line k q some none)
    (λ f line k q some none. modem_fresh d stamps f line q some none) line h

-- ## Below 0

sabm_elsewhere : (z : Bool) (d : ℕ) (f : Frame) → is_on Sabm d f ≡ true → (d == 0) ≡ false → ends z 0 (station.Got f) ≡ false
sabm_elsewhere z d f is apart =
    let p = and_parts (is_kind f.kind Sabm) (f.dlci == d) is in
    let away : (f.dlci == 0) ≡ false = ap (λ n. n == 0) (eqb-true f.dlci d p.1) ∙ apart in
    by_kind f.kind (f.dlci == 0) (octet_is (λ n. n) cld (message_of f.info)) p.0 away
  where
    by_kind : (k : Kind) (x c : Bool) → is_kind k Sabm ≡ true → x ≡ false → (((is_kind k Disc && x) || ((is_kind k Dm && x) || ((is_kind k Sabm && x) || (z && ((is_kind k Uih && x) && c))))) || false) ≡ false
    by_kind Sabm true c h e = cc
    by_kind Sabm false c h e = by_zero z
      where
        by_zero : (z : Bool) → ((false || (false || (false || (z && ((false && false) && c))))) || false) ≡ false
        by_zero true = refl
        by_zero false = refl
    by_kind Ua x c h e = cc
    by_kind Dm x c h e = cc
    by_kind Disc x c h e = cc
    by_kind Uih x c h e = cc

zero_open : (d : ℕ) (past : List station.Act) → (d == 0) ≡ false → open_m d past ≡ true → zero_m d past ≡ true
zero_open d [] apart o = cc
zero_open d (station.Got f ∷ past) apart o =
    let z = zero_m d past in
    or_elim (is_on Sabm d f && ((d == 0) || z)) (open_m d past && not (ends z d (station.Got f))) (sym (is_open_after Responder d past (station.Got f)) ∙ o)
    (λ s.
    let p = and_parts (is_on Sabm d f) ((d == 0) || z) s in
    let there : z ≡ true = sym (ap (λ (b : Bool). b || z) apart) ∙ p.1 in
    is_open_after Responder 0 past (station.Got f) ∙ kept_zero (is_on Sabm 0 f && true) z (ends z 0 (station.Got f)) there (sabm_elsewhere z d f p.0 apart))
    (λ s. let p = unended (open_m d past) (ends z d (station.Got f)) s in is_open_after Responder 0 past (station.Got f) ∙ kept_zero (is_on Sabm 0 f && true) z (ends z 0 (station.Got f)) (zero_open d past apart p.0) (itself_zero z (station.Got f) d apart p.1))
zero_open d (station.Sent f ∷ past) apart o = let z = zero_m d past in let p = unended (open_m d past) (ends z d (station.Sent f)) (sym (is_open_after Responder d past (station.Sent f)) ∙ o) in is_open_after Responder 0 past (station.Sent f) ∙ kept_zero false z (ends z 0 (station.Sent f)) (zero_open d past apart p.0) (itself_zero z (station.Sent f) d apart p.1)
zero_open d (station.Called c ∷ past) apart o = let z = zero_m d past in let p = unended (open_m d past) (ends z d (station.Called c)) (sym (is_open_after Responder d past (station.Called c)) ∙ o) in is_open_after Responder 0 past (station.Called c) ∙ kept_zero false z (ends z 0 (station.Called c)) (zero_open d past apart p.0) (itself_zero z (station.Called c) d apart p.1)
zero_open d (station.Tick ∷ past) apart o = let z = zero_m d past in let p = unended (open_m d past) (ends z d station.Tick) (sym (is_open_after Responder d past station.Tick) ∙ o) in is_open_after Responder 0 past station.Tick ∙ kept_zero false z (ends z 0 station.Tick) (zero_open d past apart p.0) (itself_zero z station.Tick d apart p.1)
zero_open d (station.Lost ∷ past) apart o = let z = zero_m d past in let p = unended (open_m d past) (ends z d station.Lost) (sym (is_open_after Responder d past station.Lost) ∙ o) in is_open_after Responder 0 past station.Lost ∙ kept_zero false z (ends z 0 station.Lost) (zero_open d past apart p.0) (itself_zero z station.Lost d apart p.1)
zero_open d (station.Given ∷ past) apart o = let z = zero_m d past in let p = unended (open_m d past) (ends z d station.Given) (sym (is_open_after Responder d past station.Given) ∙ o) in is_open_after Responder 0 past station.Given ∙ kept_zero false z (ends z 0 station.Given) (zero_open d past apart p.0) (itself_zero z station.Given d apart p.1)

-- while another connection is open at a responder 0 is
pub above : (d : ℕ) (past : List station.Act) → (d == 0) ≡ false → open_m d past ≡ true → open_m 0 past ≡ true
above d past apart o = zero_open d past apart o
