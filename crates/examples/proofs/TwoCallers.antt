-- The two callers of a desk.
use Rattle.std.specs.Prelude.{◌≡◌, List, [], ◌∷◌, ◌++◌, length, map}
use Rattle.std.proofs.Common.{ap, arith, subst, sym, ◌∙◌, length-append}
use Rattle.modem_desk.specs.Ends.{CallerView, DeskId, IsWhole, Place, place_of}

-- a list of two is the last but one and the last
pub both : {A : Type 0} (all rest none : List A) (first second : A) → length all ≡ 2 → all ≡ rest ++ second ∷ [] → rest ≡ none ++ first ∷ []
    → all ≡ first ∷ second ∷ []
both all rest [] first second two last before = last ∙ ap (λ (xs : List _). xs ++ second ∷ []) before
both all rest (x ∷ xs) first second two last before =
    let a = ap (λ (ys : List _). length ys) last ∙ length-append rest (second ∷ []) in
    let b = ap (λ (ys : List _). length ys) before ∙ length-append (x ∷ xs) (first ∷ []) in
    absurd (omega (arith, two, a, b))

-- callers that come back to their places at the same desk
pub whole_after : (d e : DeskId) (a b x y : CallerView) → IsWhole d (map place_of (a ∷ b ∷ [])) → e ≡ d → x.place ≡ a.place → y.place ≡ b.place
    → IsWhole e (map place_of (x ∷ y ∷ []))
whole_after d e a b x y whole desk first second =
    subst (λ (z : DeskId × List Place). IsWhole z.0 z.1) (λ i. (sym desk i, sym first i ∷ sym second i ∷ [])) whole
