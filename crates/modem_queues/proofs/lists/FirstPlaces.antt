-- The first that passes a test, behind a place before which none passes.
use Rattle.std.specs.Prelude.{◌≡◌, ◌≤◌, ◌<◌, ℕ, zero, suc, ◌+◌, ◌||◌, Bool, true, false, List, [], ◌∷◌, length, take, drop, refl, if◌then◌else◌, Option, Some, None, position, slice_index_or, unwrap_or, IfSome}
use Rattle.std.specs.List.{list_any, position_from}
use Rattle.std.proofs.lemmas.Iterator.Adapters.{position_from-zero}
use Rattle.std.proofs.Common.{ap, sym, ◌∙◌, arith}
use Rattle.modem_desk.specs.declared.request.Request.{Request}
use Rattle.modem_history.specs.Calls.{first_on}
use Rattle.modem_history.specs.Requests.{commands_on}

-- ## Looking behind the place

-- one passes behind the place just where one passes at all
pub any_dropped : (test : Request → Bool) (n : ℕ) (qs : List Request) → list_any test (take n qs) ≡ false → list_any test (drop n qs) ≡ list_any test qs
any_dropped test zero qs h = refl
any_dropped test (suc n) [] h = refl
any_dropped test (suc n) (q ∷ qs) h = by_test (test q) h (any_dropped test n qs)
  where
    by_test : (b : Bool) → (b || list_any test (take n qs)) ≡ false → (list_any test (take n qs) ≡ false → list_any test (drop n qs) ≡ list_any test qs) → list_any test (drop n qs) ≡ (b || list_any test qs)
    by_test true h f = cc
    by_test false h f = f h

-- the first command of d is the first behind the place
pub first_dropped : (d n : ℕ) (qs : List Request) → list_any (commands_on d) (take n qs) ≡ false → first_on d (drop n qs) ≡ first_on d qs
first_dropped d zero qs h = refl
first_dropped d (suc n) [] h = refl
first_dropped d (suc n) (q ∷ qs) h = by_test (commands_on d q) h (first_dropped d n qs)
  where
    by_test : (b : Bool) → (b || list_any (commands_on d) (take n qs)) ≡ false → (list_any (commands_on d) (take n qs) ≡ false → first_on d (drop n qs) ≡ first_on d qs) → first_on d (drop n qs) ≡ (if b then Some q else first_on d qs)
    by_test true h f = cc
    by_test false h f = f h

-- ## Its place

found_from : (test : Request → Bool) (qs : List Request) (k i : ℕ) (q : Request) → list_any test (take i qs) ≡ false → i < length qs → test (slice_index_or qs i q) ≡ true → position_from test k qs ≡ Some (i + k)
found_from test [] k i q none inside passes = let x : ⊥ = omega (arith, inside) in absurd x
found_from test (p ∷ qs) k zero q none inside passes =
    let e : k ≡ 0 + k = omega arith in
    ap (λ (b : Bool). if b then Some k else position_from test (k + 1) qs) passes ∙ ap (λ (n : ℕ). Some n) e
found_from test (p ∷ qs) k (suc i) q none inside passes = by_test (test p) none (λ h. found_from test qs (k + 1) i q h (omega (arith, inside)) passes)
  where
    by_test : (b : Bool) → (b || list_any test (take i qs)) ≡ false → (list_any test (take i qs) ≡ false → position_from test (k + 1) qs ≡ Some (i + (k + 1))) → (if b then Some k else position_from test (k + 1) qs) ≡ Some (suc i + k)
    by_test true h f = cc
    by_test false h f = let e : i + (k + 1) ≡ suc i + k = omega arith in f h ∙ ap (λ (n : ℕ). Some n) e

-- the first of a list that passes stands at this place
pub first_is : (test : Request → Bool) (qs : List Request) (i : ℕ) (q : Request) → list_any test (take i qs) ≡ false → i < length qs → q ≡ slice_index_or qs i q → test q ≡ true → Some i ≡ position test qs
first_is test qs i q none inside is passes =
    let at : position_from test 0 qs ≡ Some (i + 0) = found_from test qs 0 i q none inside (ap test (sym is) ∙ passes) in
    let e : i + 0 ≡ i = omega arith in
    sym (position_from-zero test qs ∙ (at ∙ ap (λ (n : ℕ). Some n) e))

none_from : (test : Request → Bool) (qs : List Request) (k n : ℕ) → list_any test (take n qs) ≡ false → length qs ≤ n → position_from test k qs ≡ None
none_from test [] k n none all = refl
none_from test (q ∷ qs) k zero none all = let x : ⊥ = omega (arith, all) in absurd x
none_from test (q ∷ qs) k (suc n) none all = by_test (test q) none (λ h. none_from test qs (k + 1) n h (omega (arith, all)))
  where
    by_test : (b : Bool) → (b || list_any test (take n qs)) ≡ false → (list_any test (take n qs) ≡ false → position_from test (k + 1) qs ≡ None) → (if b then Some k else position_from test (k + 1) qs) ≡ None
    by_test true h f = cc
    by_test false h f = f h

-- none of a list passes
pub none_is : (test : Request → Bool) (qs : List Request) (n : ℕ) → list_any test (take n qs) ≡ false → length qs ≤ n → None ≡ position test qs
none_is test qs n none all = sym (position_from-zero test qs ∙ none_from test qs 0 n none all)

-- ## What is known of a place that was found

before_from : (test : Request → Bool) (qs : List Request) (k i n : ℕ) → position_from test k qs ≡ Some i → i ≡ n + k → list_any test (take n qs) ≡ false
before_from test [] k i n h e = cc
before_from test (q ∷ qs) k i zero h e = refl
before_from test (q ∷ qs) k i (suc n) h e = by_test (test q) h (λ g. before_from test qs (k + 1) i n g (omega (arith, e)))
  where
    by_test : (b : Bool) → (if b then Some k else position_from test (k + 1) qs) ≡ Some i → (position_from test (k + 1) qs ≡ Some i → list_any test (take n qs) ≡ false) → (b || list_any test (take n qs)) ≡ false
    by_test true g f = let same : k ≡ i = cc in let x : ⊥ = omega (arith, e, same) in absurd x
    by_test false g f = f g

-- before the place of the first that passes none does
pub none_before : (test : Request → Bool) (qs : List Request) (i : ℕ) → Some i ≡ position test qs → list_any test (take i qs) ≡ false
none_before test qs i h = before_from test qs 0 i i (sym (position_from-zero test qs) ∙ sym h) (omega arith)

none_at_all : (test : Request → Bool) (qs : List Request) (k n : ℕ) → position_from test k qs ≡ None → list_any test (take n qs) ≡ false
none_at_all test [] k zero h = refl
none_at_all test [] k (suc n) h = refl
none_at_all test (q ∷ qs) k zero h = refl
none_at_all test (q ∷ qs) k (suc n) h = by_test (test q) h (none_at_all test qs (k + 1) n)
  where
    by_test : (b : Bool) → (if b then Some k else position_from test (k + 1) qs) ≡ None → (position_from test (k + 1) qs ≡ None → list_any test (take n qs) ≡ false) → (b || list_any test (take n qs)) ≡ false
    by_test true g f = cc
    by_test false g f = f g

-- and where no place is found none passes at all
pub none_there : (test : Request → Bool) (qs : List Request) (n : ℕ) → None ≡ position test qs → list_any test (take n qs) ≡ false
none_there test qs n h = none_at_all test qs 0 n (sym (position_from-zero test qs) ∙ sym h)

-- the place of the first, or that behind the last where there is none
pub place_or_end : (test : Request → Bool) (qs : List Request) (o : Option ℕ) (n : ℕ) → o ≡ position test qs → IfSome o (λ i. i < length qs) → n ≡ unwrap_or o (length qs) → (n ≤ length qs) × (list_any test (take n qs) ≡ false)
place_or_end test qs None n at few is = (omega (arith, is), none_there test qs n at)
place_or_end test qs (Some i) n at few is = (omega (arith, is, few), ap (λ (m : ℕ). list_any test (take m qs)) is ∙ none_before test qs i at)
