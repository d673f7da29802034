-- Only one list of bad lines is that of an input.
use Rattle.std.specs.Prelude.{◌≡◌, ℕ, ◌+◌, List, [], ◌∷◌, refl}
use Rattle.std.proofs.Common.{inl, inr}
use Rattle.ctl_text.specs.declared.expected.Expected.{Expected}
use Rattle.ctl_text.proofs.OneFault.{one_command}
use Rattle.ctl_drive.specs.Saying.{AreBad, AreBadFrom, BadLine, IsBadFor, IsGood}

good_or_bad : (line : List ℕ) (why : Expected) → IsGood line → IsBadFor line why → ⊥
good_or_bad line why (inl none) h = h.some none
good_or_bad line why (inr is) h = h.none is.dlci is.text is.command

same_bad : (place : ℕ) (v w : Expected) (a b : List BadLine) → v ≡ w → a ≡ b → record { place = place; why = v } ∷ a ≡ record { place = place; why = w } ∷ b
same_bad place v w a b why more i = record { place = place; why = why i } ∷ more i

one_from : (place : ℕ) (lines : List (List ℕ)) (a b : List BadLine) → AreBadFrom place lines a → AreBadFrom place lines b → a ≡ b
one_from place [] a b (AreBadFrom.bad_none _) (AreBadFrom.bad_none _) = refl
one_from place (line ∷ lines) a b (AreBadFrom.bad_passed _ _ _ _ g h) (AreBadFrom.bad_passed _ _ _ _ g2 k) = one_from (place + 1) lines a b h k
one_from place (line ∷ lines) a b (AreBadFrom.bad_passed _ _ _ _ g h) (AreBadFrom.bad_next _ _ why _ _ is k) = absurd (good_or_bad line why g is)
one_from place (line ∷ lines) a b (AreBadFrom.bad_next _ _ why _ _ is h) (AreBadFrom.bad_passed _ _ _ _ g k) = absurd (good_or_bad line why g is)
one_from place (line ∷ lines) _ _ (AreBadFrom.bad_next _ _ v _ a is h) (AreBadFrom.bad_next _ _ w _ b was k) =
    same_bad place v w a b (one_command line v w is.fault was.fault) (one_from (place + 1) lines a b h k)

-- two lists of the bad ones among these lines are one
pub one_naming : (lines : List (List ℕ)) (a b : List BadLine) → AreBad lines a → AreBad lines b → a ≡ b
one_naming lines a b h k = one_from 1 lines a b h k
