-- At a desk no caller uses a number twice: its books number each caller's requests one after the other.
use Rattle.std.proofs.Common.{ap, sym, ◌∙◌, arith, eqb-true}
use Rattle.std.proofs.lemmas.Bool.{and_parts, and_from, eq-eqb}
use Rattle.std.specs.Prelude.{◌≡◌, ℕ, zero, suc, ◌+◌, ◌<◌, ◌==◌, ◌&&◌, not, nat_lt, Bool, true, false, List, [], ◌∷◌, ◌++◌, length, map, drop, refl}
use Rattle.std.specs.List.{list_all}
use Rattle.modem_desk.specs.declared.request.Request.{Request}
use Rattle.modem_desk.specs.Rule.{AreNumbered, of_caller}
use Rattle.modem_desk.specs.Ends.{IsNumbered, count_from}
use Rattle.modem_history.specs.Requests.{is_apart, are_distinct}
use Rattle.modem_history.proofs.lists.Filters.{passed, taken_too}

first_of : (a b : ℕ) (xs ys : List ℕ) → a ∷ xs ≡ b ∷ ys → a ≡ b
first_of a b xs ys e = ap (λ (zs : List ℕ). head_or zs) e
  where
    head_or : List ℕ → ℕ
    head_or [] = 0
    head_or (z ∷ zs) = z

-- ## Numbers that follow one another

-- as many as there are, from the first one on
from_first : (first n : ℕ) → count_from first (suc n) ≡ first ∷ count_from (suc first) n
from_first first zero = let own : first + 0 ≡ first = omega arith in ap (λ (k : ℕ). k ∷ []) own
from_first first (suc n) =
    let last : first + suc n ≡ suc first + n = omega arith in
    ap (λ (xs : List ℕ). xs ++ (first + suc n) ∷ []) (from_first first n) ∙ ap (λ (k : ℕ). first ∷ (count_from (suc first) n ++ k ∷ [])) last

numbers_of : (first : ℕ) (q : Request) (qs : List Request) → IsNumbered first (q ∷ qs) → q.number ∷ map (λ r. r.number) qs ≡ first ∷ count_from (suc first) (length qs)
numbers_of first q qs h = h ∙ from_first first (length qs)

head_is : (first : ℕ) (q : Request) (qs : List Request) → IsNumbered first (q ∷ qs) → q.number ≡ first
head_is first q qs h = first_of q.number first (map (λ r. r.number) qs) (count_from (suc first) (length qs)) (numbers_of first q qs h)

tail_is : (first : ℕ) (q : Request) (qs : List Request) → IsNumbered first (q ∷ qs) → IsNumbered (suc first) qs
tail_is first q qs h = ap (drop 1) (numbers_of first q qs h)

apart_by_number : (q r : Request) → (q.number == r.number) ≡ false → is_apart q r ≡ true
apart_by_number q r h = ap (λ (b : Bool). not ((q.caller == r.caller) && b)) h ∙ none (q.caller == r.caller)
  where
    none : (b : Bool) → not (b && false) ≡ true
    none true = refl
    none false = refl

lower : (m n : ℕ) (b : Bool) → (m == n) ≡ b → m < n → (m == n) ≡ false
lower m n false e h = e
lower m n true e h = let same : m ≡ n = eqb-true m n e in absurd (omega (arith, same))

above_all : (q : Request) (first : ℕ) (qs : List Request) → q.number < first → IsNumbered first qs → list_all (is_apart q) qs ≡ true
above_all q first [] below h = refl
above_all q first (r ∷ qs) below h =
    let here : r.number ≡ first = head_is first r qs h in
    let other : (q.number == r.number) ≡ false = lower q.number r.number (q.number == r.number) refl (omega (arith, here)) in
    and_from (is_apart q r) (list_all (is_apart q) qs) (apart_by_number q r other) (above_all q (suc first) qs (omega arith) (tail_is first r qs h))

-- requests that are numbered one after the other are distinct
pub numbered_once : (first : ℕ) (qs : List Request) → IsNumbered first qs → are_distinct qs ≡ true
numbered_once first [] h = refl
numbered_once first (q ∷ qs) h =
    let here : q.number ≡ first = head_is first q qs h in
    and_from (list_all (is_apart q) qs) (are_distinct qs) (above_all q (suc first) qs (omega (arith, here)) (tail_is first q qs h)) (numbered_once (suc first) qs (tail_is first q qs h))

-- ## One caller after the other

abbrev is_of : ℕ → Request → Bool
is_of c r = r.caller == c

-- apart from those of its own caller, and so from all
apart_from_own : (q : Request) (qs : List Request) → list_all (is_apart q) (of_caller q.caller qs) ≡ true → list_all (is_apart q) qs ≡ true
apart_from_own q [] h = refl
apart_from_own q (r ∷ qs) h = by_caller (r.caller == q.caller) refl (apart_from_own q qs)
  where
    by_test : (b : Bool) → (r.caller == q.caller) ≡ false → (q.caller == r.caller) ≡ b → not (b && (q.number == r.number)) ≡ true
    by_test false e k = refl
    by_test true e k = let g : false ≡ true = sym e ∙ eq-eqb r.caller q.caller (sym (eqb-true q.caller r.caller k)) in cc

    by_caller : (b : Bool) → (r.caller == q.caller) ≡ b → (list_all (is_apart q) (of_caller q.caller qs) ≡ true → list_all (is_apart q) qs ≡ true) → list_all (is_apart q) (r ∷ qs) ≡ true
    by_caller true e more =
        let parts = and_parts (is_apart q r) (list_all (is_apart q) (of_caller q.caller qs)) (sym (ap (list_all (is_apart q)) (taken_too (is_of q.caller) r qs e)) ∙ h) in
        and_from (is_apart q r) (list_all (is_apart q) qs) parts.0 (more parts.1)
    by_caller false e more =
        and_from (is_apart q r) (list_all (is_apart q) qs) (by_test (q.caller == r.caller) e refl) (more (sym (ap (list_all (is_apart q)) (passed (is_of q.caller) r qs e)) ∙ h))

-- where each caller's are distinct, all are
pub all_once : (qs : List Request) → ((c : ℕ) → are_distinct (of_caller c qs) ≡ true) → are_distinct qs ≡ true
all_once [] h = refl
all_once (q ∷ qs) h =
    let own = and_parts (list_all (is_apart q) (of_caller q.caller qs)) (are_distinct (of_caller q.caller qs)) (sym (ap are_distinct (taken_too (is_of q.caller) q qs (eq-eqb q.caller q.caller refl))) ∙ h q.caller) in
    and_from (list_all (is_apart q) qs) (are_distinct qs) (apart_from_own q qs own.0) (all_once qs (λ c. less c (q.caller == c) refl))
  where
    less : (c : ℕ) (b : Bool) → (q.caller == c) ≡ b → are_distinct (of_caller c qs) ≡ true
    less c true e = (and_parts (list_all (is_apart q) (of_caller c qs)) (are_distinct (of_caller c qs)) (sym (ap are_distinct (taken_too (is_of c) q qs e)) ∙ h c)).1
    less c false e = sym (ap are_distinct (passed (is_of c) q qs e)) ∙ h c

-- what the desk's end took
pub taken_once : (qs : List Request) → AreNumbered qs → are_distinct qs ≡ true
taken_once qs h = all_once qs (λ c. numbered_once (h c).first (of_caller c qs) (h c).numbered)

-- of a caller that there isn't, there are none
pub no_caller_beyond : (n c : ℕ) (qs : List Request) → nat_lt c n ≡ false → list_all (λ (q : Request). nat_lt q.caller n) qs ≡ true → of_caller c qs ≡ []
no_caller_beyond n c [] o h = refl
no_caller_beyond n c (q ∷ qs) o h =
    let parts = and_parts (nat_lt q.caller n) (list_all (λ (r : Request). nat_lt r.caller n) qs) h in
    passed (is_of c) q qs (other (q.caller == c) refl parts.0) ∙ no_caller_beyond n c qs o parts.1
  where
    other : (b : Bool) → (q.caller == c) ≡ b → nat_lt q.caller n ≡ true → (q.caller == c) ≡ false
    other false e k = e
    other true e k = let g : false ≡ true = sym o ∙ (ap (λ (m : ℕ). nat_lt m n) (sym (eqb-true q.caller c e)) ∙ k) in cc
