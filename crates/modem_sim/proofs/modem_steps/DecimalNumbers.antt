-- Decimal numbers are read back.
use Rattle.std.specs.Prelude.{◌≡◌, ℕ, ◌+◌, ◌-◌, ◌*◌, ◌/◌, ◌%◌, ◌^◌, ◌<◌, ◌≤◌, nat_le, true, false, List, [], ◌∷◌, ◌++◌, length, Some, refl}
use Rattle.std.specs.Fmt.{decimal}
use Rattle.std.specs.List.{list_all}
use Rattle.std.proofs.Common.{arith, sym, ap, ◌∙◌, append-nil}
use Rattle.std.proofs.lemmas.Bool.Decides.{nat_tests}
use Rattle.std.proofs.lemmas.Fmt.{decimal_by_steps, length-decimal-le}
use Rattle.std.proofs.lemmas.List.{length-append}
use Rattle.std.proofs.lemmas.List.Sums.{fold-append}
use Rattle.at_text.specs.Octets.{is_digit, is_blank, skip_blanks, decimal as value_of}
use Rattle.at_cmds.specs.Params.{divided, number_of}
use Rattle.at_cmds.proofs.command_texts.CommandLines.{all_append, all_weaker, both_true}
use Rattle.at_cmds.proofs.values_read.Parameters.{is_plain, divided-plain, put_text-ended}

-- digits that spell a number
record IsSpelt (n : ℕ) (digits : List ℕ) : Type 0 where
  some : 0 < length digits
  all : list_all is_digit digits ≡ true
  value : value_of digits ≡ n

one_digit : (n : ℕ) → n < 10 → IsSpelt n ((48 + n) ∷ [])
one_digit n small =
    let digit : is_digit (48 + n) ≡ true = grind (arith, nat_tests) in
    record { some = omega arith; all = rw digit refl; value = omega arith }

next_digit : (n : ℕ) (digits : List ℕ) → 10 ≤ n → IsSpelt (n / 10) digits → IsSpelt n (digits ++ ((48 + n % 10) ∷ []))
next_digit n digits more spelt =
    let digit : is_digit (48 + n % 10) ≡ true = grind (arith, nat_tests) in
    let last : list_all is_digit ((48 + n % 10) ∷ []) ≡ true = rw digit refl in
    let size = length-append digits ((48 + n % 10) ∷ []) in
    record {
      some = omega arith;
      all = all_append is_digit digits ((48 + n % 10) ∷ []) spelt.all last;
      value = fold-append (λ m c. m * 10 + (c - 48)) 0 digits ((48 + n % 10) ∷ []) ∙ rw (spelt.value) (omega arith);
    }

spelt : (n : ℕ) → n < 2 ^ 64 → IsSpelt n (decimal n)
spelt n small = decimal_by_steps IsSpelt one_digit next_digit n small

blank_step : (c : ℕ) (digits : List ℕ) → is_digit c ≡ true → skip_blanks (c ∷ digits) ≡ c ∷ digits
blank_step c digits is = let other : is_blank c ≡ false = grind (arith, nat_tests) in rw other refl

skip_digits : (digits : List ℕ) → list_all is_digit digits ≡ true → skip_blanks digits ≡ digits
skip_digits [] all = refl
skip_digits (c ∷ digits) all = blank_step c digits (both_true (is_digit c) (list_all is_digit digits) all).0

-- a number of one octet is read back
pub number_back : (n : ℕ) → n < 256 → number_of (decimal n) ≡ Some n
unfolding number_of
number_back n small =
    let digits = decimal n in
    let is = spelt n (omega arith) in
    let short : length digits ≤ 3 = length-decimal-le 3 n (omega arith) (omega arith) (omega arith) in
    let same = skip_digits digits is.all in
    let most : nat_le (length digits) 3 ≡ true = grind (arith, nat_tests) in
    let least : nat_le 1 (length digits) ≡ true = let some = is.some in grind (arith, nat_tests) in
    let value : nat_le n 255 ≡ true = grind (arith, nat_tests) in
    rw (same, is.all, least, most, is.value, value) refl

-- also behind a blank
pub blank_number_back : (n : ℕ) → n < 256 → number_of (32 ∷ decimal n) ≡ Some n
unfolding number_of
blank_number_back n small = number_back n small

digit_plain : (c : ℕ) → is_digit c ≡ true → is_plain c ≡ true
digit_plain c is = grind (arith, nat_tests)

plain_decimal : (n : ℕ) → n < 256 → list_all is_plain (decimal n) ≡ true
plain_decimal n small = all_weaker is_digit is_plain digit_plain (decimal n) (spelt n (omega arith)).all

-- also behind a blank
pub blank_number_param : (n : ℕ) (rest : List ℕ) → n < 256 → divided false (32 ∷ (decimal n ++ 44 ∷ rest)) ≡ (32 ∷ decimal n) ∷ divided false rest
blank_number_param n rest small = divided-plain false (32 ∷ decimal n) (44 ∷ rest) (plain_decimal n small) ∙ put_text-ended (32 ∷ decimal n) (divided false rest)

-- a number at the end is one
pub last_number_param : (n : ℕ) → n < 256 → divided false (decimal n) ≡ decimal n ∷ []
last_number_param n small =
    ap (divided false) (sym (append-nil (decimal n)))
    ∙ divided-plain false (decimal n) [] (plain_decimal n small)
    ∙ put_text-ended (decimal n) []

-- a number of one octet is written in digits
pub decimal_digits : (n : ℕ) → n < 256 → list_all is_digit (decimal n) ≡ true
decimal_digits n small = (spelt n (omega arith)).all
