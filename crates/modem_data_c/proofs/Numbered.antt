-- Refusals by their numbers.
use Rattle.std.specs.Prelude.{◌≡◌, ◌⊎◌, ◌≤◌, ℕ, refl, Result, Err}
use Rattle.std.proofs.Common.{ap, ◌∙◌, inl, inr, arith}
use Rattle.modem_data.specs.declared.error.DataError.{DataError}
use Rattle.modem_data.specs.declared.error.DataError.TheVariants.{NoMemory, BadN1, ControlChannel, Twice, TooMany, NotData, UnderWay, Unread, NotOpen, Lines}
use Rattle.modem_data.specs.DataErrors.{data_error_number}

-- 6 is the number of NotData alone
pub is_not_data : (e : DataError) → data_error_number e ≡ 6 → e ≡ NotData
is_not_data NoMemory q = cc
is_not_data BadN1 q = cc
is_not_data ControlChannel q = cc
is_not_data Twice q = cc
is_not_data TooMany q = cc
is_not_data NotData q = refl
is_not_data UnderWay q = cc
is_not_data Unread q = cc
is_not_data NotOpen q = cc
is_not_data Lines q = cc

-- 7 of UnderWay
pub is_under_way : (e : DataError) → data_error_number e ≡ 7 → e ≡ UnderWay
is_under_way NoMemory q = cc
is_under_way BadN1 q = cc
is_under_way ControlChannel q = cc
is_under_way Twice q = cc
is_under_way TooMany q = cc
is_under_way NotData q = cc
is_under_way UnderWay q = refl
is_under_way Unread q = cc
is_under_way NotOpen q = cc
is_under_way Lines q = cc

-- 8 of Unread
pub is_unread : (e : DataError) → data_error_number e ≡ 8 → e ≡ Unread
is_unread NoMemory q = cc
is_unread BadN1 q = cc
is_unread ControlChannel q = cc
is_unread Twice q = cc
is_unread TooMany q = cc
is_unread NotData q = cc
is_unread UnderWay q = cc
is_unread Unread q = refl
is_unread NotOpen q = cc
is_unread Lines q = cc

-- 9 of NotOpen
pub is_not_open : (e : DataError) → data_error_number e ≡ 9 → e ≡ NotOpen
is_not_open NoMemory q = cc
is_not_open BadN1 q = cc
is_not_open ControlChannel q = cc
is_not_open Twice q = cc
is_not_open TooMany q = cc
is_not_open NotData q = cc
is_not_open UnderWay q = cc
is_not_open Unread q = cc
is_not_open NotOpen q = refl
is_not_open Lines q = cc

-- 10 of Lines
pub is_lines : (e : DataError) → data_error_number e ≡ 10 → e ≡ Lines
is_lines NoMemory q = cc
is_lines BadN1 q = cc
is_lines ControlChannel q = cc
is_lines Twice q = cc
is_lines TooMany q = cc
is_lines NotData q = cc
is_lines UnderWay q = cc
is_lines Unread q = cc
is_lines NotOpen q = cc
is_lines Lines q = refl

same_error : {A : Type 0} (r : Result A DataError) (e f : DataError) → r ≡ Err e → r ≡ Err f → e ≡ f
same_error r e f is q = cc

-- one of three refusals, by its number
abbrev pub IsOneOf : (a b c n : ℕ) → Type 0
IsOneOf a b c n = (n ≡ a) ⊎ ((n ≡ b) ⊎ (n ≡ c))

-- an error that is one of three has one of their numbers
pub one_of : {A : Type 0} (r : Result A DataError) (e x y z : DataError) (n : ℕ) → r ≡ Err e → n ≡ data_error_number e → (r ≡ Err x) ⊎ ((r ≡ Err y) ⊎ (r ≡ Err z)) → IsOneOf (data_error_number x) (data_error_number y) (data_error_number z) n
one_of r e x y z n it is (inl q) = inl (is ∙ ap data_error_number (same_error r e x it q))
one_of r e x y z n it is (inr (inl q)) = inr (inl (is ∙ ap data_error_number (same_error r e y it q)))
one_of r e x y z n it is (inr (inr q)) = inr (inr (is ∙ ap data_error_number (same_error r e z it q)))

-- none of these is 0, which says that nothing was refused
pub not_ok : (a b c n : ℕ) → 1 ≤ a → 1 ≤ b → 1 ≤ c → IsOneOf a b c n → n ≡ 0 → ⊥
not_ok a b c n x y z (inl q) e = omega (arith, q, e, x)
not_ok a b c n x y z (inr (inl q)) e = omega (arith, q, e, y)
not_ok a b c n x y z (inr (inr q)) e = omega (arith, q, e, z)

-- nor 18, which says that a number is no connection
pub not_bad : (a b c n : ℕ) → a ≤ 10 → b ≤ 10 → c ≤ 10 → IsOneOf a b c n → n ≡ 18 → ⊥
not_bad a b c n x y z (inl q) e = omega (arith, q, e, x)
not_bad a b c n x y z (inr (inl q)) e = omega (arith, q, e, y)
not_bad a b c n x y z (inr (inr q)) e = omega (arith, q, e, z)

-- if it is neither of the first two, it is the third
pub the_last : (a b c n : ℕ) → IsOneOf a b c n → (n ≡ a → ⊥) → (n ≡ b → ⊥) → n ≡ c
the_last a b c n (inl q) x y = absurd (x q)
the_last a b c n (inr (inl q)) x y = absurd (y q)
the_last a b c n (inr (inr q)) x y = q
