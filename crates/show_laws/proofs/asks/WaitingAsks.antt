-- How many asks wait, by the frames that passed.
use Rattle.std.specs.Prelude.{◌≡◌, suc, ℕ, ◌+◌, ◌≤◌, not, Bool, true, false, List, [], ◌∷◌, ◌++◌, map, is_none, Some, refl, if◌then◌else◌}
use Rattle.std.specs.List.{find, list_all, position_or_len, remove}
use Rattle.std.proofs.Common.{ap, arith, sym, ◌∙◌}
use Rattle.std.proofs.lemmas.Bool.{and_parts}
use Rattle.mux_frame.specs.Frames.{Frame}
use Rattle.mux_capture.specs.declared.packet.Stamp.{Stamp}
use Rattle.mux_capture.specs.Passing.{Caught}
use Rattle.mux_station.specs.Acts.{Act, Got, Sent}
use Rattle.mux_station.specs.declared.role.Role.{Role}
use Rattle.modem_show.specs.Ways.{is_from}
use Rattle.modem_show.specs.Asking.{Ask, answered_by, asked_with, answers, excused_by, is_ask, unanswered_by, waiting}
use Rattle.show_laws.proofs.counts.ManyFrames.{many, unit}
use Rattle.show_laws.proofs.asks.AnswerShapes.{alike, answered_asks, is_alike, is_shaped}

-- how many of these asks pass a test
abbrev pub many_asks : (Frame → Bool) → List Ask → ℕ
many_asks t [] = 0
many_asks t (a ∷ asks) = unit (t a.frame) + many_asks t asks

-- the frames of an end, and of the other
abbrev pub frames_of : Role → List Caught → List Frame
frames_of r [] = []
frames_of r (c ∷ line) = if is_from r c then c.frame ∷ frames_of r line else frames_of r line

-- those that come to the end: the other's
abbrev pub frames_to : Role → List Caught → List Frame
frames_to r [] = []
frames_to r (c ∷ line) = if is_from r c then frames_to r line else c.frame ∷ frames_to r line

-- an act that excuses asks leaves as many of them that pass a test
pub excused_many : (t : Frame → Bool) (act : Act) (asks : List Ask) → many_asks t (map (excused_by act) asks) ≡ many_asks t asks
excused_many t act [] = refl
excused_many t act (a ∷ asks) = ap (λ (n : ℕ). unit (t a.frame) + n) (excused_many t act asks)

asked_many : (t : Frame → Bool) (stamp : Stamp) (f : Frame) (asks : List Ask) → (t f ≡ true → is_ask f ≡ true) → unit (t f) + many_asks t asks ≤ many_asks t (asked_with stamp f ++ asks)
asked_many t stamp f asks h = by_test (is_ask f) (t f) refl refl
  where
    by_test : (b c : Bool) → is_ask f ≡ b → t f ≡ c → unit c + many_asks t asks ≤ many_asks t ((if b then record { stamp = stamp; frame = f; is_excused = false } ∷ [] else []) ++ asks)
    by_test true c e k = let x : unit (t f) ≡ unit c = ap unit k in omega (arith, x)
    by_test false false e k = omega arith
    by_test false true e k = absurd (let x : true ≡ false = sym (h k) ∙ e in cc)

-- one fewer waits, at most, and none fewer where what is answered isn't of the test
removed_many : (t p : Frame → Bool) (most : ℕ) (asks : List Ask) → ((f : Frame) → p f ≡ true → unit (t f) ≤ most) → many_asks t asks ≤ many_asks t (remove asks (position_or_len (λ a. p a.frame) asks)) + most
removed_many t p most [] h = omega arith
removed_many t p most (a ∷ asks) h = by_test (p a.frame) refl (removed_many t p most asks h)
  where
    by_test : (b : Bool) → p a.frame ≡ b → many_asks t asks ≤ many_asks t (remove asks (position_or_len (λ a. p a.frame) asks)) + most
        → many_asks t (a ∷ asks) ≤ many_asks t (remove (a ∷ asks) (if not b then 1 + position_or_len (λ a. p a.frame) asks else 0)) + most
    by_test true e k = let x = h a.frame e in omega (arith, x)
    by_test false e k =
        let n = position_or_len (λ a. p a.frame) asks in
        let one : 1 + n ≡ suc n = omega arith in
        let next : many_asks t (remove (a ∷ asks) (1 + n)) ≡ unit (t a.frame) + many_asks t (remove asks n) = ap (λ m. many_asks t (remove (a ∷ asks) m)) one in
        omega (arith, k, next)

-- where no ask is answered none is of the test
none_found : (t : Frame → Bool) (asks : List Ask) → is_none (find (λ a. t a.frame) asks) ≡ true → many_asks t asks ≤ 0
none_found t [] h = omega arith
none_found t (a ∷ asks) h = by_test (t a.frame) refl h (none_found t asks)
  where
    by_test : (b : Bool) → t a.frame ≡ b → is_none (if b then Some a else find (λ a. t a.frame) asks) ≡ true → (is_none (find (λ a. t a.frame) asks) ≡ true → many_asks t asks ≤ 0) → many_asks t (a ∷ asks) ≤ 0
    by_test true e h k = cc
    by_test false e h k = let x = k h in let y : unit (t a.frame) ≡ 0 = ap unit e in omega (arith, x, y)

answered_most : (g h f : Frame) → is_shaped g ≡ true → is_shaped h ≡ true → answers f h ≡ true → unit (answers f g) ≤ unit (is_alike g h)
answered_most g h f sg sh ah = by_test (answers f g) refl
  where
    by_test : (b : Bool) → answers f g ≡ b → unit b ≤ unit (is_alike g h)
    by_test true e = let x : unit (is_alike g h) ≡ 1 = ap unit (alike f g h sg sh e ah) in omega (arith, x)
    by_test false e = omega arith

-- Of the frames of an end that this answer answers, at least those wait that weren't answered by another one like it.
pub some_wait : (g : Frame) (r : Role) (line : List Caught) → is_shaped g ≡ true → list_all is_shaped (frames_to r line) ≡ true
    → many (λ f. answers f g) (frames_of r line) ≤ many_asks (λ f. answers f g) (waiting r line) + many (is_alike g) (frames_to r line)
some_wait g r [] sg all = omega arith
some_wait g r (c ∷ line) sg all = by_way (is_from r c) refl all (some_wait g r line sg)
  where
    t : Frame → Bool
    t f = answers f g

    by_way : (b : Bool) → is_from r c ≡ b → list_all is_shaped (if b then frames_to r line else c.frame ∷ frames_to r line) ≡ true
        → (list_all is_shaped (frames_to r line) ≡ true → many (λ f. answers f g) (frames_of r line) ≤ many_asks (λ f. answers f g) (waiting r line) + many (is_alike g) (frames_to r line))
        → many (λ f. answers f g) (if b then c.frame ∷ frames_of r line else frames_of r line)
        ≤ many_asks (λ f. answers f g) (if b then map (excused_by (Sent c.frame)) (asked_with c.stamp c.frame ++ waiting r line) else map (excused_by (Got c.frame)) (unanswered_by c.frame (waiting r line)))
        + many (is_alike g) (if b then frames_to r line else c.frame ∷ frames_to r line)
    by_way true e all before =
        let x = excused_many (λ f. answers f g) (Sent c.frame) (asked_with c.stamp c.frame ++ waiting r line) in
        let y = asked_many (λ f. answers f g) c.stamp c.frame (waiting r line) (answered_asks c.frame g) in
        let k = before all in
        omega (arith, x, y, k)
    by_way false e all before =
        let p = and_parts (is_shaped c.frame) (list_all is_shaped (frames_to r line)) all in
        let x = excused_many (λ f. answers f g) (Got c.frame) (unanswered_by c.frame (waiting r line)) in
        let y = removed_many (λ f. answers f g) (λ f. answers f c.frame) (unit (is_alike g c.frame)) (waiting r line) (λ f ah. answered_most g c.frame f sg p.0 ah) in
        let k = before p.1 in
        omega (arith, x, y, k)

-- where more came to be answered than was, one waits
pub one_waits : (g : Frame) (asks : List Ask) → 1 ≤ many_asks (λ f. answers f g) asks → is_none (answered_by g asks) ≡ false
one_waits g asks some = by_test (is_none (answered_by g asks)) refl
  where
    by_test : (b : Bool) → is_none (answered_by g asks) ≡ b → is_none (answered_by g asks) ≡ false
    by_test false e = e
    by_test true e = let x = none_found (λ f. answers f g) asks e in absurd (omega (arith, x, some))
