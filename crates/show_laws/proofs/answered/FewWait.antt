-- The asks of a test that wait, and the answers of another one, are no more than the asks.
use Rattle.std.specs.Prelude.{◌≡◌, suc, ℕ, ◌+◌, ◌≤◌, ◌&&◌, not, is_none, Bool, true, false, List, [], ◌∷◌, ◌++◌, length, map, Some, refl, if◌then◌else◌}
use Rattle.std.specs.List.{find, list_all, position_or_len, remove}
use Rattle.std.proofs.Common.{ap, arith}
use Rattle.std.proofs.lemmas.Bool.{and_parts}
use Rattle.mux_frame.specs.Frames.{Frame}
use Rattle.mux_capture.specs.declared.packet.Direction.TheVariants.{ToModem, FromModem}
use Rattle.mux_capture.specs.declared.packet.Stamp.{Stamp}
use Rattle.mux_capture.specs.Passing.{Caught}
use Rattle.mux_station.specs.declared.role.Role.{Role}
use Rattle.mux_station.specs.declared.role.Role.TheVariants.{Initiator, Responder}
use Rattle.mux_station.specs.Acts as station
use Rattle.mux_station.specs.Acts.{Got, Sent}
use Rattle.modem_history.specs.Acts as driver
use Rattle.modem_history.specs.Acts.{wire}
use Rattle.modem_history.specs.Calls.{Setting}
use Rattle.modem_history.specs.TwoEnds.{frames_sent}
use Rattle.modem_show.specs.Asking.{Ask, answered_by, answers, asked_with, excused_by, is_answer, is_ask, unanswered_by, waiting}
use Rattle.modem_show.specs.Ways.{caught, is_from}
use Rattle.show_laws.specs.Lines.{IsLawfulLine, LineAct, captured, driver_past, modem_past}
use Rattle.show_laws.proofs.asks.AnswerShapes.{is_shaped}
use Rattle.show_laws.proofs.asks.NoneUnasked.{driver_answers, driver_shaped, modem_answers, modem_shaped}
use Rattle.show_laws.proofs.asks.WaitingAsks.{excused_many, frames_of, frames_to, many_asks}
use Rattle.show_laws.proofs.counts.ManyFrames.{many, unit}
use Rattle.show_laws.proofs.lines.EveryFrame.{lawful_before, over}
use Rattle.show_laws.proofs.openings.SentRequests.{removed_fewer}

-- what waits of the first test was asked by a frame of the second, and a frame of the third answers one of the first
pub record IsTriple (w t u : Frame → Bool) : Type 0 where
  pub asked : (f : Frame) → is_ask f ≡ true → unit (w f) ≤ unit (t f)
  pub answer : (g : Frame) → u g ≡ true → is_answer g ≡ true
  pub of : (f g : Frame) → is_shaped g ≡ true → u g ≡ true → answers f g ≡ true → w f ≡ true

asked_few : (w t : Frame → Bool) (stamp : Stamp) (f : Frame) (asks : List Ask) → (is_ask f ≡ true → unit (w f) ≤ unit (t f)) → many_asks w (asked_with stamp f ++ asks) ≤ unit (t f) + many_asks w asks
asked_few w t stamp f asks h = by_test (is_ask f) refl
  where
    by_test : (b : Bool) → is_ask f ≡ b → many_asks w ((if b then record { stamp = stamp; frame = f; is_excused = false } ∷ [] else []) ++ asks) ≤ unit (t f) + many_asks w asks
    by_test true e = let k = h e in omega (arith, k)
    by_test false e = omega arith

one_removed : (w p : Frame → Bool) (asks : List Ask) → ((f : Frame) → p f ≡ true → w f ≡ true) → is_none (find (λ a. p a.frame) asks) ≡ false → many_asks w (remove asks (position_or_len (λ a. p a.frame) asks)) + 1 ≤ many_asks w asks
one_removed w p [] k h = let x : true ≡ false = h in cc
one_removed w p (a ∷ asks) k h = by_test (p a.frame) refl h (one_removed w p asks k)
  where
    by_test : (b : Bool) → p a.frame ≡ b → is_none (if b then Some a else find (λ a. p a.frame) asks) ≡ false
        → (is_none (find (λ a. p a.frame) asks) ≡ false → many_asks w (remove asks (position_or_len (λ a. p a.frame) asks)) + 1 ≤ many_asks w asks)
        → many_asks w (remove (a ∷ asks) (if not b then 1 + position_or_len (λ a. p a.frame) asks else 0)) + 1 ≤ many_asks w (a ∷ asks)
    by_test true e h rest = let u : unit (w a.frame) ≡ 1 = ap unit (k a.frame e) in omega (arith, u)
    by_test false e h rest =
        let n = position_or_len (λ a. p a.frame) asks in
        let one : 1 + n ≡ suc n = omega arith in
        let next : many_asks w (remove (a ∷ asks) (1 + n)) ≡ unit (w a.frame) + many_asks w (remove asks n) = ap (λ m. many_asks w (remove (a ∷ asks) m)) one in
        let x = rest h in
        omega (arith, next, x)

answer_removes : (w u : Frame → Bool) (g : Frame) (asks : List Ask) → (u g ≡ true → is_answer g ≡ true) → (u g ≡ true → (f : Frame) → answers f g ≡ true → w f ≡ true)
    → (is_answer g && is_none (answered_by g asks)) ≡ false → many_asks w (unanswered_by g asks) + unit (u g) ≤ many_asks w asks
answer_removes w u g asks answer of h = by_answer (u g) refl
  where
    found : (b : Bool) → b ≡ true → (b && is_none (answered_by g asks)) ≡ false → is_none (answered_by g asks) ≡ false
    found true e h = h
    found false e h = cc

    by_answer : (b : Bool) → u g ≡ b → many_asks w (unanswered_by g asks) + unit b ≤ many_asks w asks
    by_answer true e = one_removed w (λ f. answers f g) asks (of e) (found (is_answer g) (answer e) h)
    by_answer false e = let x = removed_fewer w (λ f. answers f g) asks in omega (arith, x)

-- the asks of the first test that wait and the answers of the third that came are no more than the asks of the second
abbrev pub Few : (w t u : Frame → Bool) → Role → List Caught → Type 0
Few w t u r line = many_asks w (waiting r line) + many u (frames_to r line) ≤ many t (frames_of r line)

from_step : (w t u : Frame → Bool) → IsTriple w t u → (r : Role) (c : Caught) (line : List Caught) → is_from r c ≡ true → Few w t u r line → Few w t u r (c ∷ line)
from_step w t u p r c line e k =
    let a = ap (λ (b : Bool). many_asks w (if b then map (excused_by (Sent c.frame)) (asked_with c.stamp c.frame ++ waiting r line) else map (excused_by (Got c.frame)) (unanswered_by c.frame (waiting r line)))) e in
    let b = ap (λ (b : Bool). many u (if b then frames_to r line else c.frame ∷ frames_to r line)) e in
    let f = ap (λ (b : Bool). many t (if b then c.frame ∷ frames_of r line else frames_of r line)) e in
    let x = excused_many w (Sent c.frame) (asked_with c.stamp c.frame ++ waiting r line) in
    let y = asked_few w t c.stamp c.frame (waiting r line) (p.asked c.frame) in
    omega (arith, a, b, f, x, y, k)

to_step : (w t u : Frame → Bool) → IsTriple w t u → (r : Role) (c : Caught) (line : List Caught) → is_from r c ≡ false → is_shaped c.frame ≡ true → (is_answer c.frame && is_none (answered_by c.frame (waiting r line))) ≡ false → Few w t u r line → Few w t u r (c ∷ line)
to_step w t u p r c line e shape h k =
    let a = ap (λ (b : Bool). many_asks w (if b then map (excused_by (Sent c.frame)) (asked_with c.stamp c.frame ++ waiting r line) else map (excused_by (Got c.frame)) (unanswered_by c.frame (waiting r line)))) e in
    let b = ap (λ (b : Bool). many u (if b then frames_to r line else c.frame ∷ frames_to r line)) e in
    let f = ap (λ (b : Bool). many t (if b then c.frame ∷ frames_of r line else frames_of r line)) e in
    let x = excused_many w (Got c.frame) (unanswered_by c.frame (waiting r line)) in
    let y = answer_removes w u c.frame (waiting r line) (p.answer c.frame) (λ is f. p.of f c.frame shape is) h in
    omega (arith, a, b, f, x, y, k)

-- so it is at both ends, in the capture of a lawful line
pub few_wait : (s : Setting) (n1 : ℕ) (stamps : ℕ → Stamp) (w t u : Frame → Bool) → IsTriple w t u → (line : List LineAct) → IsLawfulLine s n1 line → Few w t u Initiator (captured stamps line) × Few w t u Responder (captured stamps line)
few_wait s n1 stamps w t u p line h =
    over (IsLawfulLine s n1) (λ x line k. lawful_before s n1 x line k) (λ (c : List Caught). Few w t u Initiator c × Few w t u Responder c) stamps (omega arith, omega arith)
    (λ f line k q.
    let c = caught (stamps (length (captured stamps line))) ToModem f in
    let shape = (and_parts (is_shaped f) (list_all is_shaped (frames_sent (wire (driver_past line)))) (driver_shaped s (driver.Sent f ∷ driver_past line) k.driver_lawful)).0 in
    (from_step w t u p Initiator c (captured stamps line) refl q.0, to_step w t u p Responder c (captured stamps line) refl shape (driver_answers s n1 stamps f line (stamps (length (captured stamps line))) k) q.1))
    (λ f line k q.
    let c = caught (stamps (length (captured stamps line))) FromModem f in
    let shape = (and_parts (is_shaped f) (list_all is_shaped (frames_sent (modem_past line))) (modem_shaped n1 (station.Sent f ∷ modem_past line) k.modem_lawful)).0 in
    (to_step w t u p Initiator c (captured stamps line) refl shape (modem_answers s n1 stamps f line (stamps (length (captured stamps line))) k) q.0, from_step w t u p Responder c (captured stamps line) refl q.1))
    line h
