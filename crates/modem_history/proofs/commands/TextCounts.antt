-- How many texts are whole, or reached into, by some octets.
use Rattle.std.specs.Prelude.{◌≡◌, ℕ, suc, ◌+◌, ◌-◌, ◌<◌, ◌≤◌, nat_le, nat_lt, nat_eq, true, List, [], ◌∷◌, ◌++◌, length, refl, if◌then◌else◌}
use Rattle.std.specs.List.{concat, starts_with}
use Rattle.std.proofs.Common.{ap, sym, ◌∙◌, arith, zero-add, length-append}
use Rattle.std.proofs.lemmas.Bool.Decides.{nat_tests, Decides-eqb}
use Rattle.std.proofs.lemmas.Slice.Eq.{starts_is}
use Rattle.modem_desk.specs.declared.request.Request.{Request}
use Rattle.modem_history.specs.Information.{line_of, texts}
use Rattle.modem_history.specs.Placing.{whole_in, reached_in}

-- a text has octets
abbrev pub AllFilled : List (List ℕ) → Type 0
AllFilled [] = Unit {0}
AllFilled (t ∷ ts) = (0 < length t) × AllFilled ts

last_filled : (xs : List ℕ) (c : ℕ) → 0 < length (xs ++ c ∷ [])
last_filled xs c = omega (arith, length-append xs (c ∷ []))

-- each command goes out with an octet at least, its CR
pub texts_filled : (qs : List Request) → AllFilled (texts qs)
texts_filled [] = tt
texts_filled (q ∷ qs) = (last_filled (line_of q) 13, texts_filled qs)

if_le : (a b : ℕ) (x y : ℕ) → a ≤ b → (if nat_le a b then x else y) ≡ x
if_le a b x y h = grind (arith, nat_tests)

if_gt : (a b : ℕ) (x y : ℕ) → b < a → (if nat_le a b then x else y) ≡ y
if_gt a b x y h = grind (arith, nat_tests)

if_lt : (a b : ℕ) (x y : ℕ) → a < b → (if nat_lt a b then x else y) ≡ x
if_lt a b x y h = grind (arith, nat_tests)

-- the first texts are whole, and what is more counts in the others
pub whole_front : (xs ys : List (List ℕ)) (k : ℕ) → whole_in (length (concat xs) + k) (xs ++ ys) ≡ length xs + whole_in k ys
whole_front [] ys k = ap (λ (n : ℕ). whole_in n ys) (zero-add k) ∙ sym (zero-add (whole_in k ys))
whole_front (x ∷ xs) ys k =
    let n = length (x ++ concat xs) + k in
    let joined : length (x ++ concat xs) ≡ length x + length (concat xs) = length-append x (concat xs) in
    let enough : length x ≤ n = omega arith in
    let less : n - length x ≡ length (concat xs) + k = omega arith in
    let regroup : (length xs + whole_in k ys) + 1 ≡ suc (length xs) + whole_in k ys = omega arith in
    if_le (length x) n (whole_in (n - length x) (xs ++ ys) + 1) 0 enough
    ∙ (ap (λ (v : ℕ). whole_in v (xs ++ ys) + 1) less ∙ (ap (λ (v : ℕ). v + 1) (whole_front xs ys k) ∙ regroup))

-- fewer octets than the first text has make none whole
pub whole_none : (t : List ℕ) (ts : List (List ℕ)) (k : ℕ) → k < length t → whole_in k (t ∷ ts) ≡ 0
whole_none t ts k h = if_gt (length t) k (whole_in (k - length t) ts + 1) 0 h

-- no octets make none whole, where each text has some
pub whole_at_zero : (ts : List (List ℕ)) → AllFilled ts → whole_in 0 ts ≡ 0
whole_at_zero [] f = refl
whole_at_zero (t ∷ ts) f = whole_none t ts 0 f.0

-- as many octets as the first text has make that one whole, and no other
pub whole_one : (t : List ℕ) (ts : List (List ℕ)) → AllFilled ts → whole_in (length t) (t ∷ ts) ≡ 1
whole_one t ts f =
    let less : length t - length t ≡ 0 = omega arith in
    let same : length t ≤ length t = omega arith in
    if_le (length t) (length t) (whole_in (length t - length t) ts + 1) 0 same
    ∙ (ap (λ (v : ℕ). whole_in v ts + 1) less ∙ ap (λ (v : ℕ). v + 1) (whole_at_zero ts f))

-- octets beyond the first texts reach into all of these, and what is more into the others
pub reached_front : (xs ys : List (List ℕ)) (k : ℕ) → 0 < k → reached_in (length (concat xs) + k) (xs ++ ys) ≡ length xs + reached_in k ys
reached_front [] ys k h = ap (λ (n : ℕ). reached_in n ys) (zero-add k) ∙ sym (zero-add (reached_in k ys))
reached_front (x ∷ xs) ys k h =
    let n = length (x ++ concat xs) + k in
    let joined : length (x ++ concat xs) ≡ length x + length (concat xs) = length-append x (concat xs) in
    let some : 0 < n = omega arith in
    let less : n - length x ≡ length (concat xs) + k = omega arith in
    let regroup : (length xs + reached_in k ys) + 1 ≡ suc (length xs) + reached_in k ys = omega arith in
    if_lt 0 n (reached_in (n - length x) (xs ++ ys) + 1) 0 some
    ∙ (ap (λ (v : ℕ). reached_in v (xs ++ ys) + 1) less ∙ (ap (λ (v : ℕ). v + 1) (reached_front xs ys k h) ∙ regroup))

-- no octets reach into none
pub reached_none : (ts : List (List ℕ)) → reached_in 0 ts ≡ 0
reached_none [] = refl
reached_none (t ∷ ts) = refl

-- one octet, and up to all of the first text, reach into that one alone
pub reached_one : (t : List ℕ) (ts : List (List ℕ)) (k : ℕ) → 0 < k → k ≤ length t → reached_in k (t ∷ ts) ≡ 1
reached_one t ts k h l =
    let less : k - length t ≡ 0 = omega arith in
    if_lt 0 k (reached_in (k - length t) ts + 1) 0 h
    ∙ (ap (λ (v : ℕ). reached_in v ts + 1) less ∙ ap (λ (v : ℕ). v + 1) (reached_none ts))

-- texts joined begin with what they begin with
pub begins_with : (xs ys : List ℕ) → starts_with nat_eq (xs ++ ys) xs ≡ true
begins_with xs ys = (starts_is Decides-eqb (xs ++ ys) xs (starts_with nat_eq (xs ++ ys) xs) refl).1 ys refl
