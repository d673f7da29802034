-- The requests in hand, as outcomes take them off.
use Rattle.std.specs.Prelude.{◌≡◌, ℕ, ◌==◌, ◌&&◌, not, Bool, true, false, List, [], ◌∷◌, refl, if◌then◌else◌, Option, Some, find}
use Rattle.std.specs.List.{list_all}
use Rattle.std.proofs.Common.{ap, ◌∙◌, subst, arith}
use Rattle.std.proofs.lemmas.Bool.{and_parts, and_from}
use Rattle.std.proofs.lemmas.Bool.Decides.{nat_tests}
use Rattle.modem_desk.specs.declared.request.Request.{Request}
use Rattle.modem_desk.specs.declared.request.Answer.{Answer}
use Rattle.modem_desk.specs.declared.request.Outcome.{Outcome}
use Rattle.modem_history.specs.Acts.{is_for, without}
use Rattle.modem_history.specs.Calls.{first_on}
use Rattle.modem_history.specs.Requests.{is_apart, without_first, commands_on}

-- an outcome of a request
abbrev pub outcome_of : Request → Answer → Outcome
outcome_of q why = record { caller = q.caller; number = q.number; answer = why }

-- all of these are apart from a request
abbrev pub all_apart : Request → List Request → Bool
all_apart q qs = list_all (λ (r : Request). is_apart r q) qs

eq_self : (n : ℕ) → (n == n) ≡ true
eq_self n = grind (arith, nat_tests)

-- an outcome of a request answers it
pub for_itself : (q : Request) (why : Answer) → is_for q (outcome_of q why) ≡ true
for_itself q why = and_from (q.caller == q.caller) (q.number == q.number) (eq_self q.caller) (eq_self q.number)

kept_if : (b : Bool) (q : Request) (rest rest' : List Request) → b ≡ true → rest ≡ rest' → (if b then q ∷ rest else rest) ≡ q ∷ rest'
kept_if true q rest rest' h e = ap (λ (v : List Request). q ∷ v) e
kept_if false q rest rest' h e = cc

-- an outcome leaves requests that are apart
pub without_apart : (q : Request) (why : Answer) (qs : List Request) → all_apart q qs ≡ true → without (outcome_of q why) qs ≡ qs
without_apart q why [] h = refl
without_apart q why (r ∷ rs) h =
    let parts = and_parts (is_apart r q) (all_apart q rs) h in
    kept_if (is_apart r q) r (without (outcome_of q why) rs) rs parts.0 (without_apart q why rs parts.1)

apart_swaps : (q r : Request) → is_apart q r ≡ true → is_apart r q ≡ true
apart_swaps q r h =
    let caller : (r.caller == q.caller) ≡ (q.caller == r.caller) = eq_swaps r.caller q.caller in
    let number : (r.number == q.number) ≡ (q.number == r.number) = eq_swaps r.number q.number in
    ap (λ (b : Bool). not (b && (r.number == q.number))) caller ∙ (ap (λ (b : Bool). not ((q.caller == r.caller) && b)) number ∙ h)
  where
    eq_swaps : (n m : ℕ) → (n == m) ≡ (m == n)
    eq_swaps n m = grind (arith, nat_tests)

-- a request apart from all of these has them all apart from it
pub all_swap : (q : Request) (qs : List Request) → list_all (is_apart q) qs ≡ true → all_apart q qs ≡ true
all_swap q [] h = refl
all_swap q (r ∷ rs) h =
    let parts = and_parts (is_apart q r) (list_all (is_apart q) rs) h in
    and_from (is_apart r q) (all_apart q rs) (apart_swaps q r parts.0) (all_swap q rs parts.1)

-- and the other way round
pub all_swap_back : (q : Request) (qs : List Request) → all_apart q qs ≡ true → list_all (is_apart q) qs ≡ true
all_swap_back q [] h = refl
all_swap_back q (r ∷ rs) h =
    let parts = and_parts (is_apart r q) (all_apart q rs) h in
    and_from (is_apart q r) (list_all (is_apart q) rs) (apart_swaps r q parts.0) (all_swap_back q rs parts.1)

-- what holds of all holds of the one that is found
found_by : (test test' : Request → Bool) (x r : Request) (xs : List Request) (b : Bool) → test x ≡ true → (find test' xs ≡ Some r → test r ≡ true)
    → (if b then Some x else find test' xs) ≡ Some r → test r ≡ true
found_by test test' x r xs true h k e = let same : x ≡ r = cc in subst (λ (v : Request). test v ≡ true) same h
found_by test test' x r xs false h k e = k e

found_passes : (test test' : Request → Bool) (qs : List Request) (r : Request) → list_all test qs ≡ true → find test' qs ≡ Some r → test r ≡ true
found_passes test test' [] r h e = cc
found_passes test test' (x ∷ xs) r h e =
    let parts = and_parts (test x) (list_all test xs) h in
    found_by test test' x r xs (test' x) parts.0 (found_passes test test' xs r parts.1) e

-- the one that is found passes the test
pub found_tests : (test : Request → Bool) (qs : List Request) (r : Request) → find test qs ≡ Some r → test r ≡ true
found_tests test [] r e = cc
found_tests test (x ∷ xs) r e = by_test (test x) refl (found_tests test xs r) e
  where
    by_test : (b : Bool) → test x ≡ b → (find test xs ≡ Some r → test r ≡ true) → (if b then Some x else find test xs) ≡ Some r → test r ≡ true
    by_test true h k e = let same : x ≡ r = cc in subst (λ (v : Request). test v ≡ true) same h
    by_test false h k e = k e

not_of : (b : Bool) → b ≡ true → not b ≡ false
not_of true h = refl
not_of false h = cc

-- the first command on d is the first that is found to be one
pub first_is_found : (d : ℕ) (qs : List Request) → first_on d qs ≡ find (commands_on d) qs
first_is_found d [] = refl
first_is_found d (x ∷ xs) = ap (λ (v : Option Request). if commands_on d x then Some x else v) (first_is_found d xs)

-- ## What is left

-- what holds of all holds without the first that passes another test
pub all_first : (test other : Request → Bool) (qs : List Request) → list_all test qs ≡ true → list_all test (without_first other qs) ≡ true
all_first test other [] h = refl
all_first test other (x ∷ xs) h = by_test (other x) (all_first test other xs (and_parts (test x) (list_all test xs) h).1)
  where
    by_test : (b : Bool) → list_all test (without_first other xs) ≡ true → list_all test (if b then xs else x ∷ without_first other xs) ≡ true
    by_test true k = (and_parts (test x) (list_all test xs) h).1
    by_test false k = and_from (test x) (list_all test (without_first other xs)) (and_parts (test x) (list_all test xs) h).0 k
