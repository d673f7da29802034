-- What stands in a part of a list alone is found in that part.
use Rattle.std.specs.Prelude.{◌≡◌, ℕ, zero, suc, ◌+◌, ◌-◌, ◌<◌, ◌≤◌, min, Bool, true, false, List, [], ◌∷◌, length, take, drop, Some, option_map, refl, cond}
use Rattle.std.specs.List.{slice_get, position, position_from, find}
use Rattle.std.proofs.Common.{arith, sym, ◌∙◌, ap, inl, inr}
use Rattle.std.proofs.Math.Nat.{min-eq_left, min-eq_right, min-le_left, min-le_right}
use Rattle.std.proofs.Math.Seq.{take-length}
use Rattle.std.proofs.lemmas.Bool.{false_from_ne_true, cases_lt}
use Rattle.std.proofs.lemmas.Iterator.Adapters.{position_from-zero}
use Rattle.std.proofs.lemmas.List.{length-take, drop-take, drop_all, take_all}

-- those that pass stand from one place to below another
abbrev pub Only : {X : Type 0} → (X → Bool) → List X → ℕ → ℕ → Type 0
Only {X} test xs s e = (i : ℕ) (x : X) → slice_get xs i ≡ Some x → test x ≡ true → (s ≤ i) × (i < e)

only_rest : {X : Type 0} (test : X → Bool) (x : X) (xs : List X) (s e : ℕ) → Only test (x ∷ xs) (suc s) (suc e) → Only test xs s e
only_rest test x xs s e h i y at t = let both : (suc s ≤ suc i) × (suc i < suc e) = h (suc i) y at t in (omega (arith, both.0), omega (arith, both.1))

only_below : {X : Type 0} (test : X → Bool) (x : X) (xs : List X) (e : ℕ) → Only test (x ∷ xs) 0 (suc e) → Only test xs 0 e
only_below test x xs e h i y at t = let both : (0 ≤ suc i) × (suc i < suc e) = h (suc i) y at t in (omega arith, omega (arith, both.1))

only_none : {X : Type 0} (test : X → Bool) (x : X) (xs : List X) (s : ℕ) → Only test (x ∷ xs) s 0 → Only test xs s 0
only_none test x xs s h i y at t = let both : (s ≤ suc i) × (suc i < 0) = h (suc i) y at t in absurd (omega (arith, both.1))

not_first : {X : Type 0} (test : X → Bool) (x : X) (xs : List X) (s e : ℕ) → Only test (x ∷ xs) (suc s) e → test x ≡ false
not_first test x xs s e h = false_from_ne_true (test x) (λ t. let both : (suc s ≤ 0) × (0 < e) = h 0 x refl t in absurd (omega (arith, both.0)))

not_any : {X : Type 0} (test : X → Bool) (x : X) (xs : List X) (s : ℕ) → Only test (x ∷ xs) s 0 → test x ≡ false
not_any test x xs s h = false_from_ne_true (test x) (λ t. let both : (s ≤ 0) × (0 < 0) = h 0 x refl t in absurd (omega (arith, both.1)))

no_part : {X : Type 0} (s e : ℕ) → drop {A = X} s (take e []) ≡ []
no_part zero zero = refl
no_part zero (suc e) = refl
no_part (suc s) zero = refl
no_part (suc s) (suc e) = refl

no_front : {X : Type 0} (s : ℕ) → drop {A = X} s [] ≡ []
no_front zero = refl
no_front (suc s) = refl

-- what is found in the whole is found in that part
pub found_in : {X : Type 0} (test : X → Bool) (xs : List X) (s e : ℕ) → Only test xs s e → find test xs ≡ find test (drop s (take e xs))
found_in test [] s e h = rw (no_part s e) refl
found_in test (x ∷ xs) s zero h =
    rw (not_any test x xs s h, no_front s) (found_in test xs s zero (only_none test x xs s h) ∙ rw (no_front s) refl)
found_in test (x ∷ xs) zero (suc e) h = ap (cond (test x) (Some x)) (found_in test xs 0 e (only_below test x xs e h))
found_in test (x ∷ xs) (suc s) (suc e) h = rw (not_first test x xs s (suc e) h) (found_in test xs s e (only_rest test x xs s e h))

shifted_at : {X : Type 0} (test : X → Bool) (xs : List X) (s j : ℕ) (b : Bool) → option_map (λ k. s + k) (position_from test (j + 1) xs) ≡ position_from test (s + (j + 1)) xs
    → option_map (λ k. s + k) (cond b (Some j) (position_from test (j + 1) xs)) ≡ cond b (Some (s + j)) (position_from test (s + j + 1) xs)
shifted_at test xs s j true e = refl
shifted_at test xs s j false e = e ∙ ap (λ k. position_from test k xs) (let same : s + (j + 1) ≡ s + j + 1 = omega arith in same)

shifted : {X : Type 0} (test : X → Bool) (xs : List X) (s j : ℕ) → option_map (λ k. s + k) (position_from test j xs) ≡ position_from test (s + j) xs
shifted test [] s j = refl
shifted test (x ∷ xs) s j = shifted_at test xs s j (test x) (shifted test xs s (j + 1))

one_later : (s j : ℕ) → suc s + j ≡ s + (j + 1)
one_later s j = omega arith

no_shift : (j : ℕ) → 0 + j ≡ j
no_shift j = omega arith

placed_from : {X : Type 0} (test : X → Bool) (xs : List X) (s e j : ℕ) → Only test xs s e → position_from test j xs ≡ position_from test (s + j) (drop s (take e xs))
placed_from test [] s e j h = rw (no_part s e) refl
placed_from test (x ∷ xs) s zero j h =
    rw (not_any test x xs s h, no_front s) (placed_from test xs s zero (j + 1) (only_none test x xs s h) ∙ rw (no_front s) refl)
placed_from test (x ∷ xs) zero (suc e) j h =
    rw (no_shift j) (ap (cond (test x) (Some j)) (placed_from test xs 0 e (j + 1) (only_below test x xs e h) ∙ rw (no_shift (j + 1)) refl))
placed_from test (x ∷ xs) (suc s) (suc e) j h =
    rw (not_first test x xs s (suc e) h, one_later s j) (placed_from test xs s e (j + 1) (only_rest test x xs s e h))

-- at the same place, counted from the part's start
pub placed_in : {X : Type 0} (test : X → Bool) (xs : List X) (s e : ℕ) → Only test xs s e → position test xs ≡ option_map (λ k. s + k) (position test (drop s (take e xs)))
placed_in test xs s e h =
    position_from-zero test xs ∙ placed_from test xs s e 0 h
    ∙ sym (ap (option_map (λ k. s + k)) (position_from-zero test (drop s (take e xs))) ∙ shifted test (drop s (take e xs)) s 0)

-- ## A part of a list

same_front : {X : Type 0} (xs : List X) (e : ℕ) → take (min e (length xs)) xs ≡ take e xs
same_front xs e =
    elim (cases_lt (length xs) e) [
      | inr l ↦ ap (λ n. take n xs) (min-eq_left l)
      | inl l ↦ let long : length xs ≤ e = omega (arith, l) in rw (min-eq_right long) (take-length xs ∙ sym (take_all e xs long))
    ]

same_back : {X : Type 0} (ys : List X) (s n : ℕ) → length ys ≤ n → drop (min s n) ys ≡ drop s ys
same_back ys s n short =
    elim (cases_lt n s) [
      | inr l ↦ ap (λ k. drop k ys) (min-eq_left l)
      | inl l ↦ let long : n ≤ s = omega (arith, l) in rw (min-eq_right long) (drop_all n ys short ∙ sym (drop_all s ys (omega (arith, short, long))))
    ]

short_front : {X : Type 0} (n : ℕ) (xs : List X) → length (take n xs) ≤ n
short_front n xs = rw (length-take n xs) (min-le_left n (length xs))

-- a part whose bounds are cut to the list is the same part
pub part_is : {X : Type 0} (xs : List X) (s e start end : ℕ) → end ≡ min e (length xs) → start ≡ min s end → take (end - start) (drop start xs) ≡ drop s (take e xs)
part_is xs s e start end is_end is_start =
    let up : start ≤ end = rw is_start (min-le_right s end) in
    let whole : start + (end - start) ≡ end = omega (arith, up) in
    sym (drop-take start (end - start) xs) ∙ ap (λ n. drop start (take n xs)) whole
    ∙ ap (λ n. drop n (take end xs)) is_start ∙ same_back (take end xs) s end (short_front end xs)
    ∙ ap (λ n. drop s (take n xs)) is_end ∙ ap (drop s) (same_front xs e)
