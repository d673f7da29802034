-- Values of control messages.
use Rattle.std.specs.Prelude.{◌≡◌, ℕ, ◌/◌, ◌<◌, ◌≤◌, min, List, ◌∷◌, length, take, slice_index_or}
use Rattle.std.proofs.Common.{◌∙◌, ap, subst, arith, Fits, w8}
use Rattle.std.proofs.Math.Facts.{Fits-lt-pow}
use Rattle.std.proofs.lemmas.List.{length-take}

-- a value is no longer than a length field of one octet tells
pub short_value : (info rest value : List ℕ) (octet indicator n : ℕ) → ((i : ℕ) → Fits w8 (slice_index_or info i 0)) → info ≡ octet ∷ rest → rest ≡ indicator ∷ value → n ≡ indicator / 2 → length (take n value) ≤ 127
short_value info rest value octet indicator n h e k m =
    let whole : info ≡ octet ∷ indicator ∷ value = e ∙ ap (λ (v : List ℕ). octet ∷ v) k in
    let small : indicator < 256 = Fits-lt-pow (subst (λ (v : List ℕ). Fits w8 (slice_index_or v 1 0)) whole (h 1)) in
    let long : length (take n value) ≡ min n (length value) = length-take n value in
    omega (arith, small, long, m)
