-- Lists of the elements that pass a test.
use Rattle.std.proofs.Common.{ap, sym, ◌∙◌}
use Rattle.std.specs.Prelude.{◌≡◌, Bool, true, false, List, [], ◌∷◌, filter, refl, if◌then◌else◌}

module _ {A : Type 0} where
  -- an element that doesn't pass is left out
  pub passed : (t : A → Bool) (x : A) (xs : List A) → t x ≡ false → filter t (x ∷ xs) ≡ filter t xs
  passed t x xs h = ap (λ (b : Bool). if b then x ∷ filter t xs else filter t xs) h

  -- one that passes is taken too
  pub taken_too : (t : A → Bool) (x : A) (xs : List A) → t x ≡ true → filter t (x ∷ xs) ≡ x ∷ filter t xs
  taken_too t x xs h = ap (λ (b : Bool). if b then x ∷ filter t xs else filter t xs) h

  -- two tests in either order
  pub swapped : (p q : A → Bool) (xs : List A) → filter p (filter q xs) ≡ filter q (filter p xs)
  swapped p q [] = refl
  swapped p q (x ∷ xs) = by_tests (p x) (q x) refl refl (swapped p q xs)
    where
      by_tests : (a b : Bool) → p x ≡ a → q x ≡ b → filter p (filter q xs) ≡ filter q (filter p xs) → filter p (filter q (x ∷ xs)) ≡ filter q (filter p (x ∷ xs))
      by_tests true true e k rest =
          ap (filter p) (taken_too q x xs k)
          ∙ (taken_too p x (filter q xs) e ∙ (ap (λ (ys : List A). x ∷ ys) rest ∙ sym (ap (filter q) (taken_too p x xs e) ∙ taken_too q x (filter p xs) k)))
      by_tests true false e k rest = ap (filter p) (passed q x xs k) ∙ (rest ∙ sym (ap (filter q) (taken_too p x xs e) ∙ passed q x (filter p xs) k))
      by_tests false true e k rest = ap (filter p) (taken_too q x xs k) ∙ (passed p x (filter q xs) e ∙ (rest ∙ sym (ap (filter q) (passed p x xs e))))
      by_tests false false e k rest = ap (filter p) (passed q x xs k) ∙ (rest ∙ sym (ap (filter q) (passed p x xs e)))
