-- The first element that passes, and a list without it.
use Rattle.std.specs.Prelude.{◌≡◌, ℕ, ◌<◌, Bool, true, false, List, length, Some, None, nat_lt, if◌then◌else◌, slice_index_or}
use Rattle.std.proofs.Common.{refl, ap, sym, ◌∙◌, arith}
use Rattle.std.specs.List.{find, position, position_or_len, remove}
use Rattle.std.proofs.lemmas.Bool.{ltb-true, ltb-false}
use Rattle.std.proofs.lemmas.List.Folds.{find_at}
use Rattle.std.proofs.lemmas.Option.{slice_get-get_or, slice_get_past}
use Rattle.std.proofs.lemmas.Grind.{common_steps}

is_within : (b : Bool) (q i : ℕ) → (if b then Some q else None) ≡ Some i → (b ≡ true) × (q ≡ i)
is_within true q i e = (refl, cc)
is_within false q i e = cc

is_past : (b : Bool) (q : ℕ) → (if b then Some q else None) ≡ None → b ≡ false
is_past true q e = cc
is_past false q e = refl

-- what is found stands at the place
pub found_there : {X : Type 0} (p : X → Bool) (xs : List X) (i : ℕ) (x : X) → position p xs ≡ Some i → x ≡ slice_index_or xs i x → Some x ≡ find p xs
found_there p xs i x e h =
    let w = is_within (nat_lt (position_or_len p xs) (length xs)) (position_or_len p xs) i e in
    let l : position_or_len p xs < length xs = ltb-true (position_or_len p xs) (length xs) w.0 in
    let at : x ≡ slice_index_or xs (position_or_len p xs) x = h ∙ ap (λ (k : ℕ). slice_index_or xs k x) (sym w.1) in
    ap (λ y. Some y) at ∙ (sym (slice_get-get_or xs (position_or_len p xs) x l) ∙ sym (find_at p xs))

-- where there is no place nothing is found
pub found_nowhere : {X : Type 0} (p : X → Bool) (xs : List X) → position p xs ≡ None → None ≡ find p xs
found_nowhere p xs e =
    let past = is_past (nat_lt (position_or_len p xs) (length xs)) (position_or_len p xs) e in
    sym (slice_get_past xs (position_or_len p xs) (ltb-false (position_or_len p xs) (length xs) past)) ∙ sym (find_at p xs)

-- the place is the first that passes
pub is_first : {X : Type 0} (p : X → Bool) (xs : List X) (i : ℕ) → position p xs ≡ Some i → i ≡ position_or_len p xs
is_first p xs i e = sym (is_within (nat_lt (position_or_len p xs) (length xs)) (position_or_len p xs) i e).1

-- and the list without it is the whole one
pub stays_whole : {X : Type 0} (p : X → Bool) (xs : List X) → position p xs ≡ None → xs ≡ remove xs (position_or_len p xs)
stays_whole p xs e = grind (arith, common_steps)
