-- Each form of a value is read back, and what is read is of the form.
use Rattle.std.specs.Prelude.{◌≡◌, ℕ, ◌+◌, ◌-◌, ◌*◌, ◌/◌, ◌%◌, ◌<◌, ◌≤◌, ◌==◌, ◌&&◌, not, nat_lt, Bool, true, false, List, [], ◌∷◌, ◌++◌, length, take, drop, Option, Some, None, IfSome, refl, if◌then◌else◌, codes}
use Rattle.std.specs.List.{list_any}
use Rattle.std.specs.Str.{bytes_eq}
use Rattle.std.proofs.Common.{arith, sym, ap, ◌∙◌, subst, length-append}
use Rattle.std.proofs.lemmas.Bool.Decides.{nat_tests}
use Rattle.std.proofs.lemmas.Slice.Eq.{bytes_eq-Decides}
use Rattle.std.proofs.lemmas.List.{take-append-drop}
use Rattle.std.proofs.Math.Seq.{take-append_seam, drop-append_seam}
use Rattle.at_text.specs.Octets.{is_digit, is_quote}
use Rattle.at_cmds.specs.Params.{◌>>=◌, unquoted}
use Rattle.at_cmds.specs.Forms.{numeral, numeral_in, in_quotes}
use Rattle.at_cmds.proofs.command_texts.CommandLines.{both_true}

-- an option that is chosen by a test
pub if_some : {A : Type 0} (b : Bool) (x y : Option A) (Holds : A → Type 0) → (b ≡ true → IfSome x Holds) → (b ≡ false → IfSome y Holds) → IfSome (if b then x else y) Holds
if_some true x y Holds holds others = holds refl
if_some false x y Holds holds others = others refl

-- an option that stands on another
pub bind_some : {A B : Type 0} (o : Option A) (f : A → Option B) (Holds : B → Type 0) → ((a : A) → o ≡ Some a → IfSome (f a) Holds) → IfSome (o >>= f) Holds
bind_some (Some a) f Holds each = each a refl
bind_some None f Holds each = tt

-- what holds of the value that there is
pub holds_of : {A : Type 0} (o : Option A) (Holds : A → Type 0) → IfSome o Holds → (a : A) → o ≡ Some a → Holds a
holds_of o Holds held a is = let P : Option _ → Type 0 = λ x. IfSome x Holds in subst P is held

-- texts that compare equal are equal
pub same_octets : (a b : List ℕ) → bytes_eq a b ≡ true → a ≡ b
same_octets a b = (bytes_eq-Decides a b).0

-- a numeral is read back
numeral_back-at : (b : Bool) (n : ℕ) → nat_lt n 10 ≡ b → n < 100 → numeral_in (if b then (48 + n) ∷ [] else (48 + n / 10) ∷ (48 + n % 10) ∷ []) ≡ Some n
unfolding numeral_in
numeral_back-at true n low small =
    let digit : is_digit (48 + n) ≡ true = grind (arith, nat_tests) in
    let value : 48 + n - 48 ≡ n = omega arith in
    rw (digit, value) refl
numeral_back-at false n low small =
    let first : is_digit (48 + n / 10) ≡ true = grind (arith, nat_tests) in
    let second : is_digit (48 + n % 10) ≡ true = grind (arith, nat_tests) in
    let leads : (48 + n / 10 == 48) ≡ false = grind (arith, nat_tests) in
    let value : (48 + n / 10 - 48) * 10 + (48 + n % 10 - 48) ≡ n = omega arith in
    rw (leads, first, second, value) refl

-- the numeral of a number below 100 is read as that number
pub numeral_back : (n : ℕ) → n < 100 → numeral_in (numeral n) ≡ Some n
numeral_back n small = numeral_back-at (nat_lt n 10) n refl small

-- what is read as a numeral is one
pub record IsNumeral (text : List ℕ) (n : ℕ) : Type 0 where
  pub spelt : text ≡ numeral n
  pub small : n < 100

one_digit : (low : ℕ) → is_digit low ≡ true → low ∷ [] ≡ numeral (low - 48)
one_digit low is =
    let bounds : (48 ≤ low) × (low ≤ 57) = (grind (arith, nat_tests), grind (arith, nat_tests)) in
    let short : nat_lt (low - 48) 10 ≡ true = grind (arith, nat_tests) in
    let value : 48 + (low - 48) ≡ low = omega arith in
    rw (short, value) refl

two_digits : (high low : ℕ) → (high == 48) ≡ false → is_digit high ≡ true → is_digit low ≡ true → high ∷ low ∷ [] ≡ numeral ((high - 48) * 10 + (low - 48))
two_digits high low leads first second =
    let n = (high - 48) * 10 + (low - 48) in
    let high_bounds : (49 ≤ high) × (high ≤ 57) = (grind (arith, nat_tests), grind (arith, nat_tests)) in
    let low_bounds : (48 ≤ low) × (low ≤ 57) = (grind (arith, nat_tests), grind (arith, nat_tests)) in
    let long : nat_lt n 10 ≡ false = grind (arith, nat_tests) in
    let tens : 48 + n / 10 ≡ high = omega arith in
    let ones : 48 + n % 10 ≡ low = omega arith in
    rw (long, tens, ones) refl

-- what is not true is false
pub not_true : (b : Bool) → not b ≡ true → b ≡ false
not_true true is = cc
not_true false is = refl

two_small : (high low : ℕ) → is_digit high ≡ true → is_digit low ≡ true → (high - 48) * 10 + (low - 48) < 100
two_small high low first second =
    let high_bound : high ≤ 57 = grind (arith, nat_tests) in
    let low_bound : low ≤ 57 = grind (arith, nat_tests) in
    omega arith

quoted_parts : (quoted : List ℕ) → take 1 quoted ≡ 34 ∷ [] → drop (length (drop 1 quoted) - 1) (drop 1 quoted) ≡ 34 ∷ [] → quoted ≡ in_quotes (take (length (drop 1 quoted) - 1) (drop 1 quoted))
quoted_parts quoted start end =
    let behind = drop 1 quoted in
    sym (take-append-drop 1 quoted)
    ∙ ap (λ x. x ++ behind) start
    ∙ ap (λ x. 34 ∷ x) (sym (take-append-drop (length behind - 1) behind) ∙ ap (λ x. take (length behind - 1) behind ++ x) end)

-- what is read as a numeral is the numeral of a number below 100
pub numeral_is : (text : List ℕ) → IfSome (numeral_in text) (IsNumeral text)
unfolding numeral_in
numeral_is [] = tt
numeral_is (low ∷ []) =
    if_some (is_digit low) (Some (low - 48)) None (IsNumeral (low ∷ []))
    (λ is. record { spelt = one_digit low is; small = grind (arith, nat_tests) })
    (λ is. tt)
numeral_is (high ∷ low ∷ []) =
    if_some (not (high == 48) && (is_digit high && is_digit low)) (Some ((high - 48) * 10 + (low - 48))) None (IsNumeral (high ∷ low ∷ []))
    (λ is.
    let leads = both_true (not (high == 48)) (is_digit high && is_digit low) is in
    let digits = both_true (is_digit high) (is_digit low) leads.1 in
    record { spelt = two_digits high low (not_true (high == 48) leads.0) digits.0 digits.1; small = two_small high low digits.0 digits.1 })
    (λ is. tt)
numeral_is (high ∷ low ∷ third ∷ more) = tt

-- a quoted text is read back
pub unquoted_back : (text : List ℕ) → list_any is_quote text ≡ false → unquoted (in_quotes text) ≡ Some text
unfolding unquoted
unquoted_back text plain =
    let behind = text ++ 34 ∷ [] in
    let size : length behind - 1 ≡ length text = rw length-append (omega arith) in
    let front : take (length behind - 1) behind ≡ text = rw size (take-append_seam text (34 ∷ [])) in
    let end : drop (length behind - 1) behind ≡ 34 ∷ [] = rw size (drop-append_seam text (34 ∷ [])) in
    rw (front, end, plain) refl

-- what is read as a quoted text is one
pub record IsQuoted (quoted text : List ℕ) : Type 0 where
  pub spelt : quoted ≡ in_quotes text
  pub plain : list_any is_quote text ≡ false

-- a text that is read out of quotes stood between two, and has none in it
pub quoted_is : (quoted : List ℕ) → IfSome (unquoted quoted) (IsQuoted quoted)
unfolding unquoted
quoted_is quoted =
    let behind = drop 1 quoted in
    let inner = take (length behind - 1) behind in
    let starts = bytes_eq (take 1 quoted) (codes "\"") in
    let ends = bytes_eq (drop (length behind - 1) behind) (codes "\"") in
    if_some (starts && (ends && not (list_any is_quote inner))) (Some inner) None (IsQuoted quoted)
    (λ is.
    let first = both_true starts (ends && not (list_any is_quote inner)) is in
    let second = both_true ends (not (list_any is_quote inner)) first.1 in
    record {
      spelt = quoted_parts quoted (same_octets (take 1 quoted) (codes "\"") first.0) (same_octets (drop (length behind - 1) behind) (codes "\"") second.0);
      plain = not_true (list_any is_quote inner) second.1;
    })
    (λ is. tt)
