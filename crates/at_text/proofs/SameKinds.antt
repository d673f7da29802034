-- Kinds of unsolicited lines are the same where their places are.
use Rattle.std.proofs.Common.{ap, arith}
use Rattle.std.proofs.lemmas.Bool.{eqb-true, eq-eqb}
use Rattle.std.specs.Prelude.{◌≡◌, ℕ, ◌+◌, nat_eq, ◌<◌, true, refl}
use Rattle.at_text.specs.declared.unsolicited.UrcKind.{UrcKind}
use Rattle.at_text.specs.declared.unsolicited.UrcKind.TheVariants.{Ring, Cring, Creg, Cgreg, Cgev, Ciev, Other, Own}
use Rattle.at_text.specs.Kinds.{is_same_kind}

-- one of one's own has another place than one of the standards
apart : (place number : ℕ) → place < 7 → nat_eq place (7 + number) ≡ true → ⊥
apart place number small e = let same : place ≡ 7 + number = eqb-true place (7 + number) e in omega (arith, small, same)

apart_too : (place number : ℕ) → place < 7 → nat_eq (7 + number) place ≡ true → ⊥
apart_too place number small e = let same : 7 + number ≡ place = eqb-true (7 + number) place e in omega (arith, small, same)

-- kinds at one place are equal
pub same_place : (k m : UrcKind) → is_same_kind k m ≡ true → k ≡ m
same_place Ring Ring e = refl
same_place Ring Cring e = cc
same_place Ring Creg e = cc
same_place Ring Cgreg e = cc
same_place Ring Cgev e = cc
same_place Ring Ciev e = cc
same_place Ring Other e = cc
same_place Ring (Own m) e = absurd (apart 0 m (omega arith) e)
same_place Cring Ring e = cc
same_place Cring Cring e = refl
same_place Cring Creg e = cc
same_place Cring Cgreg e = cc
same_place Cring Cgev e = cc
same_place Cring Ciev e = cc
same_place Cring Other e = cc
same_place Cring (Own m) e = absurd (apart 1 m (omega arith) e)
same_place Creg Ring e = cc
same_place Creg Cring e = cc
same_place Creg Creg e = refl
same_place Creg Cgreg e = cc
same_place Creg Cgev e = cc
same_place Creg Ciev e = cc
same_place Creg Other e = cc
same_place Creg (Own m) e = absurd (apart 2 m (omega arith) e)
same_place Cgreg Ring e = cc
same_place Cgreg Cring e = cc
same_place Cgreg Creg e = cc
same_place Cgreg Cgreg e = refl
same_place Cgreg Cgev e = cc
same_place Cgreg Ciev e = cc
same_place Cgreg Other e = cc
same_place Cgreg (Own m) e = absurd (apart 3 m (omega arith) e)
same_place Cgev Ring e = cc
same_place Cgev Cring e = cc
same_place Cgev Creg e = cc
same_place Cgev Cgreg e = cc
same_place Cgev Cgev e = refl
same_place Cgev Ciev e = cc
same_place Cgev Other e = cc
same_place Cgev (Own m) e = absurd (apart 4 m (omega arith) e)
same_place Ciev Ring e = cc
same_place Ciev Cring e = cc
same_place Ciev Creg e = cc
same_place Ciev Cgreg e = cc
same_place Ciev Cgev e = cc
same_place Ciev Ciev e = refl
same_place Ciev Other e = cc
same_place Ciev (Own m) e = absurd (apart 5 m (omega arith) e)
same_place Other Ring e = cc
same_place Other Cring e = cc
same_place Other Creg e = cc
same_place Other Cgreg e = cc
same_place Other Cgev e = cc
same_place Other Ciev e = cc
same_place Other Other e = refl
same_place Other (Own m) e = absurd (apart 6 m (omega arith) e)
same_place (Own k) Ring e = absurd (apart_too 0 k (omega arith) e)
same_place (Own k) Cring e = absurd (apart_too 1 k (omega arith) e)
same_place (Own k) Creg e = absurd (apart_too 2 k (omega arith) e)
same_place (Own k) Cgreg e = absurd (apart_too 3 k (omega arith) e)
same_place (Own k) Cgev e = absurd (apart_too 4 k (omega arith) e)
same_place (Own k) Ciev e = absurd (apart_too 5 k (omega arith) e)
same_place (Own k) Other e = absurd (apart_too 6 k (omega arith) e)
same_place (Own k) (Own m) e = let both : 7 + k ≡ 7 + m = eqb-true (7 + k) (7 + m) e in ap Own (omega (arith, both))

-- each kind is the same as itself
pub same_itself : (k : UrcKind) → is_same_kind k k ≡ true
same_itself Ring = refl
same_itself Cring = refl
same_itself Creg = refl
same_itself Cgreg = refl
same_itself Cgev = refl
same_itself Ciev = refl
same_itself Other = refl
same_itself (Own k) = eq-eqb (7 + k) (7 + k) refl
