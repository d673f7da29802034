-- Each request that was submitted stands in one place: it has an outcome, it is in hand, or it was left.
use Rattle.std.proofs.Common.{ap, sym, ◌∙◌, arith, zero-add, eqb-true}
use Rattle.std.proofs.lemmas.Bool.{and_parts, eq-eqb}
use Rattle.std.proofs.lemmas.List.Elements.{All-nil, All-cons, All-contains}
use Rattle.std.specs.Prelude.{◌≡◌, ℕ, suc, ◌+◌, ◌≤◌, ◌==◌, ◌&&◌, ◌||◌, not, Bool, true, false, List, [], ◌∷◌, length, filter, refl, if◌then◌else◌, All, Contains}
use Rattle.std.specs.List.{list_all, list_any}
use Rattle.modem_desk.specs.declared.request.Request.{Request}
use Rattle.modem_desk.specs.declared.request.Outcome.{Outcome}
use Rattle.modem_desk.specs.Rule.{of_caller}
use Rattle.modem_history.specs.Acts.{is_for}
use Rattle.modem_history.specs.Wholes.{is_same}
use Rattle.modem_history.proofs.outcomes.OutcomeCounts.{one, many}
use Rattle.modem_history.proofs.lists.Filters.{passed, taken_too}

-- ## Requests of one caller

same_itself : (r : Request) → is_same r r ≡ true
same_itself r = ap (λ (b : Bool). b && (r.number == r.number)) (eq-eqb r.caller r.caller refl) ∙ eq-eqb r.number r.number refl

counted_in : (whole qs : List Request) → ((r : Request) → many r qs ≤ many r whole) → All (λ r. 1 ≤ many r whole) qs
counted_in whole [] h = All-nil (λ r. 1 ≤ many r whole)
counted_in whole (q ∷ qs) h =
    let own : one (is_same q q) ≡ 1 = ap one (same_itself q) in
    let here : 1 ≤ many q whole = let k = h q in omega (arith, own, k) in
    All-cons (λ r. 1 ≤ many r whole) q qs here (counted_in whole qs (λ r. let k = h r in omega (arith, k)))

-- a request of a list is counted in it
pub is_counted : (qs : List Request) (r : Request) → Contains qs r → 1 ≤ many r qs
is_counted qs r at = All-contains (λ q. 1 ≤ many q qs) qs r (counted_in qs qs (λ q. omega arith)) at

abbrev is_of : ℕ → Request → Bool
is_of c r = r.caller == c

-- a request of a caller is counted among that caller's
pub counted_own : (r : Request) (qs : List Request) → many r (of_caller r.caller qs) ≡ many r qs
counted_own r [] = refl
counted_own r (q ∷ qs) = by_caller (q.caller == r.caller) refl (counted_own r qs)
  where
    by_caller : (b : Bool) → (q.caller == r.caller) ≡ b → many r (of_caller r.caller qs) ≡ many r qs → many r (of_caller r.caller (q ∷ qs)) ≡ many r (q ∷ qs)
    by_caller true e k = ap (many r) (taken_too (is_of r.caller) q qs e) ∙ ap (λ (n : ℕ). one (is_same r q) + n) k
    by_caller false e k =
        let other : is_same r q ≡ false = not_same (r.caller == q.caller) refl in
        ap (many r) (passed (is_of r.caller) q qs e) ∙ (k ∙ (sym (zero-add (many r qs)) ∙ ap (λ (b : Bool). one b + many r qs) (sym other)))
      where
        not_same : (b : Bool) → (r.caller == q.caller) ≡ b → is_same r q ≡ false
        not_same false g = ap (λ (b : Bool). b && (r.number == q.number)) g
        not_same true g = let n : false ≡ true = sym e ∙ eq-eqb q.caller r.caller (sym (eqb-true r.caller q.caller g)) in cc

-- ## Requests that have an outcome

-- the request has one of these outcomes
abbrev pub is_told : List Outcome → Request → Bool
is_told os r = list_any (λ o. is_for r o) os

told_alike : (r q : Request) (os : List Outcome) → is_same r q ≡ true → is_told os q ≡ is_told os r
told_alike r q os h =
    let parts = and_parts (r.caller == q.caller) (r.number == q.number) h in
    let callers : q.caller ≡ r.caller = sym (eqb-true r.caller q.caller parts.0) in
    let numbers : q.number ≡ r.number = sym (eqb-true r.number q.number parts.1) in
    ap (λ (n : ℕ). list_any (λ (o : Outcome). (n == o.caller) && (q.number == o.number)) os) callers
    ∙ ap (λ (n : ℕ). list_any (λ (o : Outcome). (r.caller == o.caller) && (n == o.number)) os) numbers

-- of those that have no outcome
pub many_untold : (r : Request) (os : List Outcome) (qs : List Request) → many r (filter (λ q. not (is_told os q)) qs) ≡ (if is_told os r then 0 else many r qs)
many_untold r os [] = none (is_told os r)
  where
    none : (b : Bool) → many r [] ≡ (if b then 0 else many r [])
    none true = refl
    none false = refl
many_untold r os (q ∷ qs) = by_tests (is_same r q) (is_told os q) (is_told os r) refl refl refl (many_untold r os qs)
  where
    rest : List Request
    rest = filter (λ (x : Request). not (is_told os x)) qs

    by_tests : (same mine own : Bool) → is_same r q ≡ same → is_told os q ≡ mine → is_told os r ≡ own → many r rest ≡ (if own then 0 else many r qs)
        → many r (if not mine then q ∷ rest else rest) ≡ (if own then 0 else one same + many r qs)
    by_tests true true true s m o k = k
    by_tests true false false s m o k = ap (λ (b : Bool). one b + many r rest) s ∙ ap (λ (n : ℕ). 1 + n) k
    by_tests true true false s m o k = let g : true ≡ false = sym m ∙ (told_alike r q os s ∙ o) in cc
    by_tests true false true s m o k = let g : false ≡ true = sym m ∙ (told_alike r q os s ∙ o) in cc
    by_tests false true own s m o k = k ∙ more own
      where
        more : (b : Bool) → (if b then 0 else many r qs) ≡ (if b then 0 else 0 + many r qs)
        more true = refl
        more false = sym (zero-add (many r qs))
    by_tests false false own s m o k = ap (λ (b : Bool). one b + many r rest) s ∙ (zero-add (many r rest) ∙ (k ∙ more own))
      where
        more : (b : Bool) → (if b then 0 else many r qs) ≡ (if b then 0 else 0 + many r qs)
        more true = refl
        more false = sym (zero-add (many r qs))

-- how many outcomes answer it
answers_more : (r : Request) (x : Outcome) (xs : List Outcome) (b : Bool) → is_for r x ≡ b → length (filter (λ o. is_for r o) (x ∷ xs)) ≡ one b + length (filter (λ o. is_for r o) xs)
answers_more r x xs true e = ap (λ (c : Bool). length (if c then x ∷ filter (λ o. is_for r o) xs else filter (λ o. is_for r o) xs)) e ∙ let k : suc (length (filter (λ o. is_for r o) xs)) ≡ 1 + length (filter (λ o. is_for r o) xs) = omega arith in k
answers_more r x xs false e = ap (λ (c : Bool). length (if c then x ∷ filter (λ o. is_for r o) xs else filter (λ o. is_for r o) xs)) e ∙ sym (zero-add (length (filter (λ o. is_for r o) xs)))

-- where it has one, one at least answers it
pub some_answer : (r : Request) (os : List Outcome) → is_told os r ≡ true → 1 ≤ length (filter (λ o. is_for r o) os)
some_answer r [] h = cc
some_answer r (x ∷ xs) h = by_first (is_for r x) refl h (some_answer r xs)
  where
    by_first : (c : Bool) → is_for r x ≡ c → (c || is_told xs r) ≡ true → (is_told xs r ≡ true → 1 ≤ length (filter (λ o. is_for r o) xs)) → 1 ≤ length (filter (λ o. is_for r o) (x ∷ xs))
    by_first true e g more = let k = answers_more r x xs true e in omega (arith, k)
    by_first false e g more = let k = answers_more r x xs false e in let l = more g in omega (arith, k, l)

-- where it has none, none answers it
pub no_answer : (r : Request) (os : List Outcome) → is_told os r ≡ false → length (filter (λ o. is_for r o) os) ≡ 0
no_answer r [] h = refl
no_answer r (x ∷ xs) h = by_first (is_for r x) refl h (no_answer r xs)
  where
    by_first : (c : Bool) → is_for r x ≡ c → (c || is_told xs r) ≡ false → (is_told xs r ≡ false → length (filter (λ o. is_for r o) xs) ≡ 0) → length (filter (λ o. is_for r o) (x ∷ xs)) ≡ 0
    by_first true e g more = cc
    by_first false e g more = let k = answers_more r x xs false e in let l = more g in omega (arith, k, l)

-- an outcome's request was taken
same_of : (r x : Request) (o : Outcome) → is_for r o ≡ true → is_for x o ≡ true → is_same r x ≡ true
same_of r x o g e =
    let mine = and_parts (r.caller == o.caller) (r.number == o.number) g in
    let its = and_parts (x.caller == o.caller) (x.number == o.number) e in
    let callers : r.caller ≡ x.caller = eqb-true r.caller o.caller mine.0 ∙ sym (eqb-true x.caller o.caller its.0) in
    let numbers : r.number ≡ x.number = eqb-true r.number o.number mine.1 ∙ sym (eqb-true x.number o.number its.1) in
    ap (λ (b : Bool). b && (r.number == x.number)) (eq-eqb r.caller x.caller callers) ∙ eq-eqb r.number x.number numbers

found : (r : Request) (o : Outcome) (xs : List Request) → is_for r o ≡ true → list_any (λ q. is_for q o) xs ≡ true → 1 ≤ many r xs
found r o [] g h = cc
found r o (x ∷ xs) g h = by_x (is_for x o) refl h (found r o xs g)
  where
    by_x : (c : Bool) → is_for x o ≡ c → (c || list_any (λ q. is_for q o) xs) ≡ true → (list_any (λ q. is_for q o) xs ≡ true → 1 ≤ many r xs) → 1 ≤ one (is_same r x) + many r xs
    by_x false e k more = let l = more k in omega (arith, l)
    by_x true e k more = let own : one (is_same r x) ≡ 1 = ap one (same_of r x o g e) in omega (arith, own)

-- where it has one it was taken
pub told_taken : (r : Request) (os : List Outcome) (qs : List Request) → list_all (λ o. list_any (λ q. is_for q o) qs) os ≡ true → is_told os r ≡ true → 1 ≤ many r qs
told_taken r [] qs a h = cc
told_taken r (o ∷ os) qs a h =
    let parts = and_parts (list_any (λ q. is_for q o) qs) (list_all (λ p. list_any (λ q. is_for q p) qs) os) a in
    by_first (is_for r o) refl h parts.0 (told_taken r os qs parts.1)
  where
    by_first : (c : Bool) → is_for r o ≡ c → (c || is_told os r) ≡ true → list_any (λ q. is_for q o) qs ≡ true → (is_told os r ≡ true → 1 ≤ many r qs) → 1 ≤ many r qs
    by_first true e k here more = found r o qs e here
    by_first false e k here more = more k

-- a request that was taken or left has one place
pub one_place : (r : Request) (os : List Outcome) (taken left : List Request) → length (filter (λ o. is_for r o) os) ≤ 1
    → list_all (λ o. list_any (λ q. is_for q o) taken) os ≡ true → many r taken + many r left ≡ 1
    → length (filter (λ o. is_for r o) os) + (many r (filter (λ q. not (is_told os q)) taken) + many r left) ≡ 1
one_place r os taken left few answers whole = by_told (is_told os r) refl
  where
    by_told : (b : Bool) → is_told os r ≡ b → length (filter (λ o. is_for r o) os) + (many r (filter (λ q. not (is_told os q)) taken) + many r left) ≡ 1
    by_told true t =
        let count : length (filter (λ o. is_for r o) os) ≡ 1 = let some = some_answer r os t in omega (arith, some, few) in
        let waits : many r (filter (λ q. not (is_told os q)) taken) ≡ 0 = many_untold r os taken ∙ ap (λ (b : Bool). if b then 0 else many r taken) t in
        let was = told_taken r os taken answers t in
        omega (arith, count, waits, was, whole)
    by_told false t =
        let count : length (filter (λ o. is_for r o) os) ≡ 0 = no_answer r os t in
        let waits : many r (filter (λ q. not (is_told os q)) taken) ≡ many r taken = many_untold r os taken ∙ ap (λ (b : Bool). if b then 0 else many r taken) t in
        omega (arith, count, waits, whole)
