-- The kinds that a desk listens to.
use Rattle.std.proofs.Common.{ap, sym, ◌∙◌, arith}
use Rattle.std.proofs.lemmas.List.Elements.{Contains-append_right}
use Rattle.std.specs.Prelude.{◌≡◌, zero, suc, ◌<◌, ◌||◌, Bool, true, false, List, [], ◌∷◌, refl, Contains}
use Rattle.at_text.specs.declared.unsolicited.UrcKind.{UrcKind}
use Rattle.at_text.specs.Kinds.{is_same_kind}
use Rattle.at_text.proofs.SameKinds.{same_place, same_itself}
use Rattle.modem_history.specs.Kinds.{is_listened}

none_in : (k : UrcKind) → Contains [] k → ⊥
none_in k c = let lt : c.0 < 0 = c.1 in omega arith

-- ## Listened to

or_left : (b c : Bool) → b ≡ true → (b || c) ≡ true
or_left true c h = refl
or_left false c h = cc

or_right : (b c : Bool) → c ≡ true → (b || c) ≡ true
or_right true c h = refl
or_right false c h = h

-- a kind that is listened to is one of these
pub listened_in : (ks : List UrcKind) (k : UrcKind) → is_listened ks k ≡ true → Contains ks k
listened_in [] k h = cc
listened_in (m ∷ ks) k h = by_test (is_same_kind k m) refl h (listened_in ks k)
  where
    by_test : (b : Bool) → is_same_kind k m ≡ b → (b || is_listened ks k) ≡ true → (is_listened ks k ≡ true → Contains ks k) → Contains (m ∷ ks) k
    by_test true e t go = (0, omega arith, sym (same_place k m e))
    by_test false e t go = Contains-append_right (m ∷ []) ks k (go t)

-- and one of these is listened to
pub in_listened : (ks : List UrcKind) (k : UrcKind) → Contains ks k → is_listened ks k ≡ true
in_listened [] k c = absurd (none_in k c)
in_listened (m ∷ ks) k (zero, lt, e) = or_left (is_same_kind k m) (is_listened ks k) (ap (is_same_kind k) e ∙ same_itself k)
in_listened (m ∷ ks) k (suc i, lt, e) = or_right (is_same_kind k m) (is_listened ks k) (in_listened ks k (i, omega arith, e))
