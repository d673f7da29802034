-- Room for several frames in the control queue.
use Rattle.std.specs.Prelude.{◌≡◌, ℕ, ◌+◌, ◌≤◌, ◌&&◌, nat_le, Bool, true, false, List, [], ◌∷◌, ◌++◌, refl}
use Rattle.std.proofs.Common.{◌∙◌, ap, sym, arith}
use Rattle.std.proofs.lemmas.Bool.{and_parts, and_from, le-leb, leb-true}
use Rattle.mux_frame.specs.Frames.{Frame}
use Rattle.mux_station.specs.Written.{written_length}
use Rattle.mux_station.specs.Tables.{octets_of, has_room, have_room}

-- joined frames have the octets of the first and of the second together
pub octets_both : (fs gs : List Frame) → octets_of (fs ++ gs) ≡ octets_of fs + octets_of gs
octets_both [] gs = omega arith
octets_both (f ∷ fs) gs = let rest : octets_of (fs ++ gs) ≡ octets_of fs + octets_of gs = octets_both fs gs in omega (arith, rest)

room_parts : (n1 q : ℕ) (fs gs : List Frame) → have_room n1 q (fs ++ gs) ≡ (have_room n1 q fs && have_room n1 (q + octets_of fs) gs)
room_parts n1 q [] gs = let none : q ≡ q + 0 = omega arith in ap (λ (n : ℕ). have_room n1 n gs) none
room_parts n1 q (f ∷ fs) gs =
    let more : q + written_length f + octets_of fs ≡ q + (written_length f + octets_of fs) = omega arith in
    ap (λ (b : Bool). has_room n1 q f && b) (room_parts n1 (q + written_length f) fs gs ∙ ap (λ (n : ℕ). have_room n1 (q + written_length f) fs && have_room n1 n gs) more)
    ∙ and_three (has_room n1 q f) (have_room n1 (q + written_length f) fs) (have_room n1 (q + (written_length f + octets_of fs)) gs)
  where
    and_three : (a b c : Bool) → (a && (b && c)) ≡ ((a && b) && c)
    and_three true b c = refl
    and_three false b c = refl

-- where the frames fit, the first of them do, and the others behind those
pub room_before : (n1 : ℕ) (queue fs gs : List Frame) → have_room n1 (octets_of queue) (fs ++ gs) ≡ true → have_room n1 (octets_of queue) fs ≡ true
room_before n1 queue fs gs h = (and_parts (have_room n1 (octets_of queue) fs) (have_room n1 (octets_of queue + octets_of fs) gs) (sym (room_parts n1 (octets_of queue) fs gs) ∙ h)).0

-- and the others do behind them, once the first are queued
pub room_behind : (n1 : ℕ) (queue fs gs : List Frame) → have_room n1 (octets_of queue) (fs ++ gs) ≡ true → have_room n1 (octets_of (queue ++ fs)) gs ≡ true
room_behind n1 queue fs gs h =
    ap (λ (n : ℕ). have_room n1 n gs) (octets_both queue fs)
    ∙ (and_parts (have_room n1 (octets_of queue) fs) (have_room n1 (octets_of queue + octets_of fs) gs) (sym (room_parts n1 (octets_of queue) fs gs) ∙ h)).1

-- the sum of the octets decides
sum_behind : (n1 q a b : ℕ) → (nat_le (q + a) (4096 + n1) && nat_le (q + a + b) (4096 + n1)) ≡ nat_le (q + (a + b)) (4096 + n1)
sum_behind n1 q a b = by_last (nat_le (q + (a + b)) (4096 + n1)) refl
  where
    same : q + a + b ≡ q + (a + b)
    same = omega arith

    off : (c : Bool) → (c && false) ≡ false
    off true = refl
    off false = refl

    by_last : (c : Bool) → nat_le (q + (a + b)) (4096 + n1) ≡ c → (nat_le (q + a) (4096 + n1) && nat_le (q + a + b) (4096 + n1)) ≡ c
    by_last true h =
        let most : q + (a + b) ≤ 4096 + n1 = leb-true (q + (a + b)) (4096 + n1) h in
        and_from (nat_le (q + a) (4096 + n1)) (nat_le (q + a + b) (4096 + n1)) (le-leb (q + a) (4096 + n1) (omega (arith, most))) (le-leb (q + a + b) (4096 + n1) (omega (arith, most)))
    by_last false h = ap (λ (c : Bool). nat_le (q + a) (4096 + n1) && c) (ap (λ (n : ℕ). nat_le n (4096 + n1)) same ∙ h) ∙ off (nat_le (q + a) (4096 + n1))

-- a frame, and others behind it, fit just where the sum of their octets does
pub room_sum : (n1 q : ℕ) (f : Frame) (fs : List Frame) → have_room n1 q (f ∷ fs) ≡ nat_le (q + octets_of (f ∷ fs)) (4096 + n1)
room_sum n1 q f [] =
    let one : q + written_length f ≡ q + (written_length f + 0) = omega arith in
    and_true (has_room n1 q f) ∙ ap (λ (n : ℕ). nat_le n (4096 + n1)) one
  where
    and_true : (b : Bool) → (b && true) ≡ b
    and_true true = refl
    and_true false = refl
room_sum n1 q f (g ∷ fs) =
    ap (λ (b : Bool). has_room n1 q f && b) (room_sum n1 (q + written_length f) g fs) ∙ sum_behind n1 q (written_length f) (octets_of (g ∷ fs))

-- a test of the sum tests whether all of them fit
pub room_test : (n1 q len room : ℕ) (fs : List Frame) (b : Bool) → b ≡ nat_le (q + len) room → (len ≡ 0 → b ≡ true) → len ≡ octets_of fs → room ≡ 4096 + n1 → have_room n1 q fs ≡ b
room_test n1 q len room [] b h none n r = sym (none n)
room_test n1 q len room (f ∷ fs) b h none n r =
    room_sum n1 q f fs ∙ (ap (λ (m : ℕ). nat_le (q + m) (4096 + n1)) (sym n) ∙ (ap (λ (m : ℕ). nat_le (q + len) m) (sym r) ∙ sym h))
