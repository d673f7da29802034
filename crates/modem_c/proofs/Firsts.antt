-- What holds of the first of a list.
use Rattle.std.proofs.Common.{subst}
use Rattle.std.specs.Prelude.{◌≡◌, List, ◌∷◌}
use Rattle.modem_c.specs.Texts.{OfFirst}

-- what holds of the first of a list holds of the element at its front
pub first_is : {A : Type 0} (p : A → Type 0) (xs ys : List A) (x : A) → xs ≡ x ∷ ys → OfFirst xs p → p x
first_is p xs ys x e h = subst (λ (zs : List _). OfFirst zs p) e h
