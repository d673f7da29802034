-- How the texts that are wholly sent grow.
use Rattle.std.specs.Prelude.{◌≡◌, ℕ, zero, suc, ◌+◌, ◌-◌, ◌<◌, ◌≤◌, nat_le, nat_lt, List, [], ◌∷◌, ◌++◌, length, take, refl, if◌then◌else◌}
use Rattle.std.specs.List.{concat}
use Rattle.std.proofs.Common.{ap, arith, length-append}
use Rattle.std.proofs.lemmas.Bool.Decides.{nat_tests}
use Rattle.modem_history.specs.Placing.{whole_in, reached_in}
use Rattle.modem_history.proofs.commands.TextCounts.{AllFilled, whole_none}

reached_by : (l n a b : ℕ) → 0 < l → a ≤ b → (if nat_le l n then a + 1 else 0) ≤ (if nat_lt 0 n then b + 1 else 0)
reached_by l n a b h k = grind (arith, nat_tests)

-- what is whole is reached into
pub whole_reached : (n : ℕ) (ts : List (List ℕ)) → AllFilled ts → whole_in n ts ≤ reached_in n ts
whole_reached n [] f = omega arith
whole_reached n (t ∷ ts) f = reached_by (length t) n (whole_in (n - length t) ts) (reached_in (n - length t) ts) f.0 (whole_reached (n - length t) ts f.1)

few_by : (l n a k : ℕ) → a ≤ k → (if nat_le l n then a + 1 else 0) ≤ suc k
few_by l n a k h = grind (arith, nat_tests)

-- no more texts are whole than there are
pub whole_few : (n : ℕ) (ts : List (List ℕ)) → whole_in n ts ≤ length ts
whole_few n [] = omega arith
whole_few n (t ∷ ts) = few_by (length t) n (whole_in (n - length t) ts) (length ts) (whole_few (n - length t) ts)

more_by : (l n m a b : ℕ) → n ≤ m → a ≤ b → (if nat_le l n then a + 1 else 0) ≤ (if nat_le l m then b + 1 else 0)
more_by l n m a b h k = grind (arith, nat_tests)

-- more octets make no fewer texts whole
pub whole_more : (n m : ℕ) (ts : List (List ℕ)) → n ≤ m → whole_in n ts ≤ whole_in m ts
whole_more n m [] h = omega arith
whole_more n m (t ∷ ts) h =
    let less : n - length t ≤ m - length t = omega arith in
    more_by (length t) n m (whole_in (n - length t) ts) (whole_in (m - length t) ts) h (whole_more (n - length t) (m - length t) ts less)

-- a text behind those that are reached changes nothing
pub whole_push : (n : ℕ) (ts : List (List ℕ)) (t : List ℕ) → n ≤ length (concat ts) → 0 < length t → whole_in n (ts ++ t ∷ []) ≡ whole_in n ts
whole_push n [] t h f = let small : n < length t = omega arith in whole_none t [] n small
whole_push n (x ∷ xs) t h f =
    let joined : length (x ++ concat xs) ≡ length x + length (concat xs) = length-append x (concat xs) in
    let less : n - length x ≤ length (concat xs) = omega arith in
    ap (λ (v : ℕ). if nat_le (length x) n then v + 1 else 0) (whole_push (n - length x) xs t less f)

-- the first k of the first m are the first k of all, where k is no more than m
pub take_within : {X : Type 0} → (k m : ℕ) (xs : List X) → k ≤ m → take k (take m xs) ≡ take k xs
take_within zero m xs h = refl
take_within (suc k) zero xs h = absurd (let e : suc k ≤ 0 = h in omega (arith, e))
take_within (suc k) (suc m) [] h = refl
take_within (suc k) (suc m) (x ∷ xs) h = ap (λ ys. x ∷ ys) (take_within k m xs (omega (arith, h)))
