-- Where flags stand.
use Rattle.std.proofs.Common.{◌≡◌, ℕ, zero, suc, ◌+◌, ◌<◌, ◌==◌, Bool, true, false, List, [], ◌∷◌, Option, None, Some, length, refl, if◌then◌else◌, ap, arith}
use Rattle.std.specs.Prelude.{slice_index}
use Rattle.std.proofs.lemmas.Bool.{eqb-true}
use Rattle.memchr.specs.Find.{IsFirstByte, is_byte}
use Rattle.mux_frame.specs.Spelling.{flag}
use Rattle.mux_frame.specs.Reading.{after_flag}
use Rattle.mux_frame.specs.Places.{IsFirstFlag, FirstFlag}

no_flag-at : (b : Bool) (xs : List ℕ) → (b ≡ true → ⊥) → after_flag xs ≡ None → (if b then Some xs else after_flag xs) ≡ None
no_flag-at true xs h e = absurd (h refl)
no_flag-at false xs h e = e

no_flag_in : (xs : List ℕ) → ((k : ℕ) → k < length xs → (slice_index xs k == flag) ≡ true → ⊥) → after_flag xs ≡ None
no_flag_in [] h = refl
no_flag_in (x ∷ xs) h = no_flag-at (x == flag) xs (h 0 (omega arith)) (no_flag_in xs (λ k l. h (suc k) (omega arith)))

first-at : (b : Bool) (x : ℕ) (xs : List ℕ) (k : ℕ) → (x == flag) ≡ b → (b ≡ true → ⊥) → IsFirstFlag xs k → IsFirstFlag (x ∷ xs) (suc k)
first-at true x xs k e h f = absurd (h refl)
first-at false x xs k e h f =
    let one : suc k + 1 ≡ suc (k + 1) = omega arith in
    let l = f.within in
    record { within = omega (arith, l); here = rw one f.here; after = rw (e, one) f.after }

first_flag : (xs : List ℕ) (k : ℕ) → k < length xs → ((j : ℕ) → j < k → (slice_index xs j == flag) ≡ true → ⊥) → (slice_index xs k == flag) ≡ true → IsFirstFlag xs k
first_flag [] k l before e = absurd (omega arith)
first_flag (x ∷ xs) zero l before e = record { within = omega arith; here = ap (λ y. y ∷ xs) (eqb-true x flag e); after = rw e refl }
first_flag (x ∷ xs) (suc k) l before e = first-at (x == flag) x xs k refl (before 0 (omega arith)) (first_flag xs k (omega arith) (λ j m. before (suc j) (omega arith)) e)

-- what a search for the flag finds
pub found_flag : (xs : List ℕ) (r : Option ℕ) → IsFirstByte (is_byte flag) xs r → FirstFlag xs r
found_flag xs None h = no_flag_in xs (λ k l e. h k (omega arith) l e)
found_flag xs (Some k) h = first_flag xs k h.0.high (λ j l e. h.0.before j (omega arith) l e) h.1

-- no flag is found, or one is and the text after it
pub found_none : (xs : List ℕ) → IsFirstByte (is_byte flag) xs None → after_flag xs ≡ None
found_none xs h = found_flag xs None h

-- a place that is found is that of the first flag
pub found_some : (xs : List ℕ) (k : ℕ) → IsFirstByte (is_byte flag) xs (Some k) → IsFirstFlag xs k
found_some xs k h = found_flag xs (Some k) h
