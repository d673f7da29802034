-- What waits for an answer was sent.
use Rattle.std.specs.Prelude.{◌≡◌, ◌+◌, ◌≤◌, not, Bool, true, false, List, [], ◌∷◌, ◌++◌, map, suc, unwrap_or, Option, Some, refl, if◌then◌else◌}
use Rattle.std.specs.List.{find, position_or_len, remove}
use Rattle.std.proofs.Common.{ap, arith, subst}
use Rattle.mux_frame.specs.Frames.{Frame}
use Rattle.mux_capture.specs.Passing.{Caught}
use Rattle.mux_capture.specs.declared.packet.Stamp.{Stamp}
use Rattle.mux_station.specs.declared.role.Role.{Role}
use Rattle.mux_station.specs.Acts as station
use Rattle.mux_station.specs.Messages.{test}
use Rattle.modem_history.specs.Acts.{Got, Sent}
use Rattle.modem_show.specs.Asking.{Ask, answers, asked_with, excused_by, is_ask, unanswered_by, waiting}
use Rattle.modem_show.specs.Ways.{is_from}
use Rattle.show_laws.proofs.asks.WaitingAsks.{excused_many, frames_of, many_asks}
use Rattle.show_laws.proofs.counts.ManyFrames.{many, unit}

-- ## What waits was sent

asked_most : (t : Frame → Bool) (stamp : Stamp) (f : Frame) (asks : List Ask) → many_asks t (asked_with stamp f ++ asks) ≤ unit (t f) + many_asks t asks
asked_most t stamp f asks = by_test (is_ask f)
  where
    by_test : (b : Bool) → many_asks t ((if b then record { stamp = stamp; frame = f; is_excused = false } ∷ [] else []) ++ asks) ≤ unit (t f) + many_asks t asks
    by_test true = omega arith
    by_test false = omega arith

-- without the ask that is answered, no more pass
pub removed_fewer : (t p : Frame → Bool) (asks : List Ask) → many_asks t (remove asks (position_or_len (λ a. p a.frame) asks)) ≤ many_asks t asks
removed_fewer t p [] = omega arith
removed_fewer t p (a ∷ asks) = by_test (p a.frame) (removed_fewer t p asks)
  where
    by_test : (b : Bool) → many_asks t (remove asks (position_or_len (λ a. p a.frame) asks)) ≤ many_asks t asks
        → many_asks t (remove (a ∷ asks) (if not b then 1 + position_or_len (λ a. p a.frame) asks else 0)) ≤ many_asks t (a ∷ asks)
    by_test true k = omega arith
    by_test false k =
        let n = position_or_len (λ a. p a.frame) asks in
        let next : many_asks t (remove (a ∷ asks) (1 + n)) ≡ unit (t a.frame) + many_asks t (remove asks n) = let one : 1 + n ≡ suc n = omega arith in ap (λ m. many_asks t (remove (a ∷ asks) m)) one in
        omega (arith, k, next)

-- no more asks of a test wait than frames of it were sent
pub waiting_few : (t : Frame → Bool) (r : Role) (line : List Caught) → many_asks t (waiting r line) ≤ many t (frames_of r line)
waiting_few t r [] = omega arith
waiting_few t r (c ∷ line) = by_way (is_from r c) (waiting_few t r line)
  where
    by_way : (b : Bool) → many_asks t (waiting r line) ≤ many t (frames_of r line)
        → many_asks t (if b then map (excused_by (station.Sent c.frame)) (asked_with c.stamp c.frame ++ waiting r line) else map (excused_by (station.Got c.frame)) (unanswered_by c.frame (waiting r line))) ≤ many t (if b then c.frame ∷ frames_of r line else frames_of r line)
    by_way true k =
        let e = excused_many t (station.Sent c.frame) (asked_with c.stamp c.frame ++ waiting r line) in
        let x = asked_most t c.stamp c.frame (waiting r line) in
        omega (arith, e, x, k)
    by_way false k =
        let e = excused_many t (station.Got c.frame) (unanswered_by c.frame (waiting r line)) in
        let x = removed_fewer t (λ f. answers f c.frame) (waiting r line) in
        omega (arith, e, x, k)

-- the ask that is found passes, and is none of a test of which none waits
pub found_one : (t p : Frame → Bool) (asks : List Ask) (a : Ask) → find (λ x. p x.frame) asks ≡ Some a → many_asks t asks ≤ 0 → (p a.frame ≡ true) × (t a.frame ≡ false)
found_one t p [] a e none = cc
found_one t p (x ∷ asks) a e none = by_test (p x.frame) refl e (λ k. found_one t p asks a k (omega (arith, none)))
  where
    off : t x.frame ≡ false
    off = by_off (t x.frame) refl
      where
        by_off : (b : Bool) → t x.frame ≡ b → b ≡ false
        by_off false e = refl
        by_off true e = let y : unit (t x.frame) ≡ 1 = ap unit e in absurd (omega (arith, y, none))

    by_test : (b : Bool) → p x.frame ≡ b → (if b then Some x else find (λ x. p x.frame) asks) ≡ Some a → (find (λ x. p x.frame) asks ≡ Some a → (p a.frame ≡ true) × (t a.frame ≡ false)) → (p a.frame ≡ true) × (t a.frame ≡ false)
    by_test true h k rest = let same : x ≡ a = ap (λ (o : Option Ask). unwrap_or o x) k in (subst (λ (y : Ask). p y.frame ≡ true) same h, subst (λ (y : Ask). t y.frame ≡ false) same off)
    by_test false h k rest = rest k
