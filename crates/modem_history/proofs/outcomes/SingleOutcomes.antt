-- No session tells an outcome twice.
use Rattle.std.proofs.Common.{ap, sym, ◌∙◌, arith, eqb-true}
use Rattle.std.proofs.lemmas.Bool.{and_parts, eq-eqb}
use Rattle.std.specs.Prelude.{◌≡◌, ◌≤◌, ◌==◌, ◌&&◌, not, Bool, true, false, List, [], ◌∷◌, length, filter, refl}
use Rattle.std.specs.List.{list_all}
use Rattle.modem_desk.specs.declared.request.Request.{Request}
use Rattle.modem_desk.specs.declared.request.Outcome.{Outcome}
use Rattle.modem_history.specs.Acts.{is_for}
use Rattle.modem_history.specs.Requests.{is_apart, are_distinct}
use Rattle.modem_history.specs.Wholes.{UsesOnce, is_same}
use Rattle.modem_history.specs.Sessions.{caller_outcomes}
use Rattle.modem_history.proofs.lists.Filters.{passed, taken_too}

both_true : (a b : Bool) → a ≡ true → b ≡ true → (a && b) ≡ true
both_true true b h k = k
both_true false b h k = cc

off : (b : Bool) → not b ≡ true → b ≡ true → ⊥
off true h k = cc
off false h k = cc

clash : (b : Bool) → b ≡ false → b ≡ true → ⊥
clash true h k = cc
clash false h k = cc

-- by caller and number one request, so not apart
not_apart : (r q s : Request) (b : Bool) → is_same r s ≡ b → is_same r q ≡ true → is_apart q s ≡ true → b ≡ false
not_apart r q s false e h k = refl
not_apart r q s true e h k =
    let ss = and_parts (r.caller == s.caller) (r.number == s.number) e in
    let qs = and_parts (r.caller == q.caller) (r.number == q.number) h in
    let callers : q.caller ≡ s.caller = sym (eqb-true r.caller q.caller qs.0) ∙ eqb-true r.caller s.caller ss.0 in
    let numbers : q.number ≡ s.number = sym (eqb-true r.number q.number qs.1) ∙ eqb-true r.number s.number ss.1 in
    absurd (off ((q.caller == s.caller) && (q.number == s.number)) k (both_true _ _ (eq-eqb q.caller s.caller callers) (eq-eqb q.number s.number numbers)))

none_same : (r q : Request) (qs : List Request) → is_same r q ≡ true → list_all (is_apart q) qs ≡ true → filter (is_same r) qs ≡ []
none_same r q [] h k = refl
none_same r q (s ∷ qs) h k =
    let parts = and_parts (is_apart q s) (list_all (is_apart q) qs) k in
    passed (is_same r) s qs (not_apart r q s (is_same r s) refl h parts.0) ∙ none_same r q qs h parts.1

-- of distinct requests no two have the same caller and number
pub uses_once : (qs : List Request) → are_distinct qs ≡ true → UsesOnce qs
uses_once [] d r = omega arith
uses_once (q ∷ qs) d r =
    let parts = and_parts (list_all (is_apart q) qs) (are_distinct qs) d in
    by_test (is_same r q) refl parts.0 (uses_once qs parts.1 r)
  where
    by_test : (b : Bool) → is_same r q ≡ b → list_all (is_apart q) qs ≡ true → length (filter (is_same r) qs) ≤ 1 → length (filter (is_same r) (q ∷ qs)) ≤ 1
    by_test true e apart few = let one : length (filter (is_same r) (q ∷ qs)) ≡ 1 = ap length (taken_too (is_same r) q qs e ∙ ap (λ (xs : List Request). q ∷ xs) (none_same r q qs e apart)) in omega arith
    by_test false e apart few = let same : length (filter (is_same r) (q ∷ qs)) ≡ length (filter (is_same r) qs) = ap length (passed (is_same r) q qs e) in omega arith

-- the outcomes of a request are among those of its caller
pub of_its_caller : (r : Request) (os : List Outcome) → filter (λ o. is_for r o) (caller_outcomes r.caller os) ≡ filter (λ o. is_for r o) os
of_its_caller r [] = refl
of_its_caller r (o ∷ os) = by_tests (o.caller == r.caller) (is_for r o) refl refl (of_its_caller r os)
  where
    by_tests : (a b : Bool) → (o.caller == r.caller) ≡ a → is_for r o ≡ b → filter (λ o. is_for r o) (caller_outcomes r.caller os) ≡ filter (λ o. is_for r o) os
        → filter (λ o. is_for r o) (caller_outcomes r.caller (o ∷ os)) ≡ filter (λ o. is_for r o) (o ∷ os)
    by_tests true true e k rest =
        ap (filter (λ o. is_for r o)) (taken_too (λ (o : Outcome). o.caller == r.caller) o os e)
        ∙ (taken_too (λ o. is_for r o) o (caller_outcomes r.caller os) k ∙ (ap (λ (xs : List Outcome). o ∷ xs) rest ∙ sym (taken_too (λ o. is_for r o) o os k)))
    by_tests true false e k rest =
        ap (filter (λ o. is_for r o)) (taken_too (λ (o : Outcome). o.caller == r.caller) o os e)
        ∙ (passed (λ o. is_for r o) o (caller_outcomes r.caller os) k ∙ (rest ∙ sym (passed (λ o. is_for r o) o os k)))
    by_tests false true e k rest =
        let parts = and_parts (r.caller == o.caller) (r.number == o.number) k in
        absurd (clash (o.caller == r.caller) e (eq-eqb o.caller r.caller (sym (eqb-true r.caller o.caller parts.0))))
    by_tests false false e k rest =
        ap (filter (λ o. is_for r o)) (passed (λ (o : Outcome). o.caller == r.caller) o os e) ∙ (rest ∙ sym (passed (λ o. is_for r o) o os k))
