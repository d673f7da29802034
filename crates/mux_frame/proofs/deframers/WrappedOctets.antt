-- Octets in two slices.
use Rattle.std.proofs.Common.{◌≡◌, ◌≢◌, ℕ, suc, ◌+◌, ◌<◌, ◌==◌, Bool, true, false, List, [], ◌∷◌, ◌++◌, Option, None, Some, length, drop, refl, if◌then◌else◌, sym, ap, ◌∙◌, arith}
use Rattle.std.specs.Prelude.{slice_get}
use Rattle.std.proofs.lemmas.Bool.{eqb-true}
use Rattle.std.proofs.lemmas.List.{append-nil, drop_all, drop-append-le, length-drop}
use Rattle.std.proofs.Math.Seq.{drop-append-add}
use Rattle.mux_frame.specs.Spelling.{flag}
use Rattle.mux_frame.specs.Places.{from_flag}
use Rattle.mux_frame.specs.Judging.{Header, Verdict, fits, by_header, by_end, by_rest, verdict_on}
use Rattle.mux_frame.specs.Deframing.{decision_on}
use Rattle.mux_frame.proofs.deframers.DeframerOctets.{decision_behind}

-- Flags.

from_none-at : (b : Bool) (x : ℕ) (xs ys : List ℕ) → (if b then x ∷ xs else from_flag xs) ≡ [] → (from_flag xs ≡ [] → from_flag (xs ++ ys) ≡ from_flag ys) → (if b then x ∷ (xs ++ ys) else from_flag (xs ++ ys)) ≡ from_flag ys
from_none-at true x xs ys e h = cc
from_none-at false x xs ys e h = h e

from_none : (xs ys : List ℕ) → from_flag xs ≡ [] → from_flag (xs ++ ys) ≡ from_flag ys
from_none [] ys e = refl
from_none (x ∷ xs) ys e = from_none-at (x == flag) x xs ys e (from_none xs ys)

from_some-at : (b : Bool) (x : ℕ) (xs ys : List ℕ) → (if b then x ∷ xs else from_flag xs) ≢ [] → (from_flag xs ≢ [] → from_flag (xs ++ ys) ≡ from_flag xs ++ ys) → (if b then x ∷ (xs ++ ys) else from_flag (xs ++ ys)) ≡ (if b then x ∷ xs else from_flag xs) ++ ys
from_some-at true x xs ys e h = refl
from_some-at false x xs ys e h = h e

from_some : (xs ys : List ℕ) → from_flag xs ≢ [] → from_flag (xs ++ ys) ≡ from_flag xs ++ ys
from_some [] ys e = absurd (e refl)
from_some (x ∷ xs) ys e = from_some-at (x == flag) x xs ys e (from_some xs ys)

some_left : (n : ℕ) (xs : List ℕ) → n < length xs → drop n xs ≢ []
some_left n xs l e =
    let k = ap length e in
    let d = length-drop n xs in
    omega (arith, k, d, l)

-- the first flag of two slices stands in the first
pub flag_in_first : (n : ℕ) (xs ys : List ℕ) → n < length xs → drop n xs ≡ from_flag xs → drop n (xs ++ ys) ≡ from_flag (xs ++ ys)
flag_in_first n xs ys l e =
    drop-append-le n xs ys (omega (arith, l)) ∙ ap (λ z. z ++ ys) e ∙ sym (from_some xs ys (λ k. some_left n xs l (e ∙ k)))

-- it stands in the second, or nowhere
pub flag_in_second : (n m : ℕ) (xs ys : List ℕ) → n ≡ length xs → drop n xs ≡ from_flag xs → drop m ys ≡ from_flag ys → drop (n + m) (xs ++ ys) ≡ from_flag (xs ++ ys)
flag_in_second n m xs ys s e d =
    let none : from_flag xs ≡ [] = sym e ∙ drop_all n xs (omega (arith, s)) in
    ap (λ i. drop (i + m) (xs ++ ys)) s ∙ drop-append-add xs ys m ∙ d ∙ sym (from_none xs ys none)

-- Decisions and verdicts.

-- where there is no second slice, the first one tells
pub decision_alone : (n1 : ℕ) (xs ys : List ℕ) (v : Verdict) → v ≡ decision_on n1 xs → true ≡ (length ys == 0) → v ≡ decision_on n1 (xs ++ ys)
decision_alone n1 xs [] v e h = e ∙ ap (decision_on n1) (sym (append-nil xs))
decision_alone n1 xs (y ∷ ys) v e h = let z = eqb-true (length (y ∷ ys)) 0 (sym h) in absurd (omega (arith, z))

-- Octet by octet.

some_octet : (x y : ℕ) → Some x ≡ Some y → x ≡ y
some_octet x y e = cc

nothing_there : (x : ℕ) → Some x ≡ None → ⊥
nothing_there x e = cc

-- the decision, where the first four octets behind a flag tell
pub decision_ends : (n1 f : ℕ) (u : List ℕ) (x y l m : Option ℕ) (v : Verdict) → Some f ≡ slice_get u 0 → f ≡ flag → x ≡ slice_get u 1 → y ≡ slice_get u 2 → l ≡ slice_get u 3 → m ≡ slice_get u 4 → v ≡ by_header n1 x y l m → by_rest (drop 1 u) v ≡ v → v ≡ decision_on n1 u
unfolding verdict_on
decision_ends n1 f [] x y l m v a b c d e g h k = absurd (nothing_there f a)
decision_ends n1 f (z ∷ t) x y l m v a b c d e g h k =
    let w : v ≡ verdict_on n1 t = sym k ∙ ap (by_rest t) (rw (c, d, e, g) at h) in
    decision_behind n1 z (z ∷ t) t v refl (sym (some_octet f z a) ∙ b) w

-- the decision, where the octets at the frame's end tell
pub decision_fits : (n1 f : ℕ) (u : List ℕ) (h : Header) (place : ℕ) (x y l m o p : Option ℕ) (v : Verdict) → Some f ≡ slice_get u 0 → f ≡ flag → x ≡ slice_get u 1 → y ≡ slice_get u 2 → l ≡ slice_get u 3 → m ≡ slice_get u 4 → fits h ≡ by_header n1 x y l m → place ≡ h.size + h.info_len → o ≡ slice_get u (place + 1) → p ≡ slice_get u (place + 2) → v ≡ by_end h o p → v ≡ decision_on n1 u
unfolding verdict_on
decision_fits n1 f [] h place x y l m o p v a b c d e g k q r s w = absurd (nothing_there f a)
decision_fits n1 f (z ∷ t) h place x y l m o p v a b c d e g k q r s w =
    let one : place + 1 ≡ suc place = omega arith in
    let two : place + 2 ≡ suc (place + 1) = omega arith in
    let i : o ≡ slice_get t (h.size + h.info_len) = r ∙ ap (slice_get (z ∷ t)) one ∙ ap (slice_get t) q in
    let j : p ≡ slice_get t (h.size + h.info_len + 1) = s ∙ ap (slice_get (z ∷ t)) two ∙ ap (λ n. slice_get t (n + 1)) q in
    let n : v ≡ verdict_on n1 t = rw (i, j) at w ∙ ap (by_rest t) (rw (c, d, e, g) at k) in
    decision_behind n1 z (z ∷ t) t v refl (sym (some_octet f z a) ∙ b) n
