-- The requests in hand are those that were taken and not told.
use Rattle.std.proofs.Common.{ap, sym, ◌∙◌, eqb-true}
use Rattle.std.proofs.lemmas.Bool.{and_parts, eq-eqb}
use Rattle.std.proofs.lemmas.List.Elements.{filter-append}
use Rattle.std.proofs.lemmas.List.Folds.{list_all-append, list_any-append}
use Rattle.std.specs.Prelude.{◌≡◌, ◌==◌, ◌&&◌, ◌||◌, not, Bool, true, false, List, [], ◌∷◌, ◌++◌, filter, refl, if◌then◌else◌}
use Rattle.std.specs.List.{list_all, list_any}
use Rattle.modem_desk.specs.declared.request.Request.{Request}
use Rattle.modem_desk.specs.declared.request.Outcome.{Outcome}
use Rattle.modem_history.specs.Acts.{Act, Took, Got, Sent, Told, Heard, Tick, Lost, Held, Freed, Given, is_for, in_hand}
use Rattle.modem_history.specs.Requests.{is_apart, are_distinct}
use Rattle.modem_history.specs.Calls.{Setting}
use Rattle.modem_history.specs.Lawful.{Lawful}
use Rattle.modem_history.specs.Wholes.{taken_requests, outcomes}
use Rattle.modem_history.specs.SessionLaws.{untold}
use Rattle.modem_history.proofs.lists.Filters.{passed, taken_too}
use Rattle.modem_history.proofs.requests.RequestsInHand.{all_apart}
use Rattle.modem_history.proofs.requests.RequestsAfterCalls.{distinct_ends}
use Rattle.modem_history.proofs.outcomes.WholeCounts.{answers_once}

both_true : (a b : Bool) → a ≡ true → b ≡ true → (a && b) ≡ true
both_true true b h k = k
both_true false b h k = cc

off : (b : Bool) → not b ≡ true → b ≡ true → ⊥
off true h k = cc
off false h k = cc

never : {P : Type 0} → false ≡ true → P
never e = cc

-- an outcome of one of two requests that are apart isn't the other's
apart_differ : (q r : Request) (o : Outcome) (b : Bool) → is_for r o ≡ b → is_apart q r ≡ true → is_for q o ≡ true → b ≡ false
apart_differ q r o false e h k = refl
apart_differ q r o true e h k =
    let rs = and_parts (r.caller == o.caller) (r.number == o.number) e in
    let qs = and_parts (q.caller == o.caller) (q.number == o.number) k in
    let callers : q.caller ≡ r.caller = eqb-true q.caller o.caller qs.0 ∙ sym (eqb-true r.caller o.caller rs.0) in
    let numbers : q.number ≡ r.number = eqb-true q.number o.number qs.1 ∙ sym (eqb-true r.number o.number rs.1) in
    absurd (off ((q.caller == r.caller) && (q.number == r.number)) h (both_true _ _ (eq-eqb q.caller r.caller callers) (eq-eqb q.number r.number numbers)))

-- an outcome of one of these isn't that of a request that is apart from them all
not_its : (r : Request) (o : Outcome) (qs : List Request) → all_apart r qs ≡ true → list_any (λ q. is_for q o) qs ≡ true → is_for r o ≡ false
not_its r o [] h k = never k
not_its r o (q ∷ qs) h k =
    let parts = and_parts (is_apart q r) (all_apart r qs) h in
    by_test (is_for q o) refl parts.0 k (λ m. not_its r o qs parts.1 m)
  where
    by_test : (b : Bool) → is_for q o ≡ b → is_apart q r ≡ true → (b || list_any (λ q. is_for q o) qs) ≡ true → (list_any (λ q. is_for q o) qs ≡ true → is_for r o ≡ false) → is_for r o ≡ false
    by_test true e a m go = apart_differ q r o (is_for r o) refl a e
    by_test false e a m go = go m

-- where outcomes are all of some requests, a request apart from these has none
pub no_outcome : (r : Request) (qs : List Request) (os : List Outcome) → all_apart r qs ≡ true → list_all (λ o. list_any (λ q. is_for q o) qs) os ≡ true → list_any (λ o. is_for r o) os ≡ false
no_outcome r qs [] h k = refl
no_outcome r qs (o ∷ os) h k =
    let parts = and_parts (list_any (λ q. is_for q o) qs) (list_all (λ o. list_any (λ q. is_for q o) qs) os) k in
    ap (λ (b : Bool). b || list_any (λ o. is_for r o) os) (not_its r o qs h parts.0) ∙ no_outcome r qs os h parts.1

or_more : (a b : Bool) → a ≡ true → (a || b) ≡ true
or_more true b h = refl
or_more false b h = cc

still_all : (qs : List Request) (r : Request) (os : List Outcome) → list_all (λ o. list_any (λ q. is_for q o) qs) os ≡ true → list_all (λ o. list_any (λ q. is_for q o) (qs ++ r ∷ [])) os ≡ true
still_all qs r [] h = refl
still_all qs r (o ∷ os) h =
    let parts = and_parts (list_any (λ q. is_for q o) qs) (list_all (λ o. list_any (λ q. is_for q o) qs) os) h in
    both_true _ _ (list_any-append (λ q. is_for q o) qs (r ∷ []) ∙ or_more _ _ parts.0) (still_all qs r os parts.1)

-- each outcome is that of a request that was taken
pub all_answer : (s : Setting) (past : List Act) → Lawful s past → list_all (λ o. list_any (λ q. is_for q o) (taken_requests past)) (outcomes past) ≡ true
unfolding Lawful
all_answer s [] l = refl
all_answer s (Told o ∷ past) l =
    let here : list_any (λ q. is_for q o) (taken_requests past) ≡ true = (answers_once s (Told o ∷ past) l).earlier [] past o refl in
    list_all-append (λ o. list_any (λ q. is_for q o) (taken_requests past)) (outcomes past) (o ∷ []) ∙ both_true _ _ (all_answer s past l.1) (both_true _ _ here refl)
all_answer s (Took r ∷ past) l = still_all (taken_requests past) r (outcomes past) (all_answer s past l.1)
all_answer s (Got f ∷ past) l = all_answer s past l.1
all_answer s (Sent f ∷ past) l = all_answer s past l.1
all_answer s (Heard k d line ∷ past) l = all_answer s past l.1
all_answer s (Tick ∷ past) l = all_answer s past l.1
all_answer s (Lost ∷ past) l = all_answer s past l.1
all_answer s (Held d ∷ past) l = all_answer s past l.1
all_answer s (Freed d ∷ past) l = all_answer s past l.1
all_answer s (Given ∷ past) l = all_answer s past l.1

abbrev waits_yet : List Outcome → Request → Bool
waits_yet os r = not (list_any (λ o. is_for r o) os)

-- two tests one after the other
twice : (p q r : Request → Bool) → ((x : Request) → r x ≡ (q x && p x)) → (xs : List Request) → filter p (filter q xs) ≡ filter r xs
twice p q r h [] = refl
twice p q r h (x ∷ xs) = by_tests (q x) (p x) refl refl (twice p q r h xs)
  where
    by_tests : (a b : Bool) → q x ≡ a → p x ≡ b → filter p (filter q xs) ≡ filter r xs → filter p (filter q (x ∷ xs)) ≡ filter r (x ∷ xs)
    by_tests true true e k rest =
        ap (filter p) (taken_too q x xs e) ∙ (taken_too p x (filter q xs) k ∙ (ap (λ (ys : List Request). x ∷ ys) rest
        ∙ sym (taken_too r x xs (h x ∙ both_true (q x) (p x) e k))))
    by_tests true false e k rest =
        ap (filter p) (taken_too q x xs e) ∙ (passed p x (filter q xs) k ∙ (rest
        ∙ sym (passed r x xs (h x ∙ (ap (λ (b : Bool). b && p x) e ∙ k)))))
    by_tests false b e k rest =
        ap (filter p) (passed q x xs e) ∙ (rest ∙ sym (passed r x xs (h x ∙ ap (λ (b : Bool). b && p x) e)))

neither : (a b : Bool) → not (a || (b || false)) ≡ (not a && not b)
neither true b = refl
neither false true = refl
neither false false = refl

-- with one outcome more
one_more : (os : List Outcome) (o : Outcome) (qs : List Request) → filter (λ r. not (is_for r o)) (filter (waits_yet os) qs) ≡ filter (waits_yet (os ++ o ∷ [])) qs
one_more os o qs =
    twice (λ r. not (is_for r o)) (waits_yet os) (waits_yet (os ++ o ∷ []))
    (λ x. ap not (list_any-append (λ o. is_for x o) os (o ∷ [])) ∙ neither (list_any (λ o. is_for x o) os) (is_for x o)) qs

last_waits : (os : List Outcome) (r : Request) → list_any (λ o. is_for r o) os ≡ false → filter (waits_yet os) (r ∷ []) ≡ r ∷ []
last_waits os r h = ap (λ (b : Bool). if not b then r ∷ [] else []) h

-- in a lawful history of distinct requests those in hand are those taken and not told
pub hand_is : (s : Setting) (past : List Act) → Lawful s past → are_distinct (taken_requests past) ≡ true → in_hand past ≡ untold past
unfolding Lawful
hand_is s [] l d = refl
hand_is s (Took r ∷ past) l d =
    let ends = distinct_ends (taken_requests past) r d in
    let none = no_outcome r (taken_requests past) (outcomes past) ends.1 (all_answer s past l.1) in
    ap (λ (qs : List Request). qs ++ r ∷ []) (hand_is s past l.1 ends.0)
    ∙ (ap (λ (qs : List Request). untold past ++ qs) (sym (last_waits (outcomes past) r none))
    ∙ sym (filter-append (waits_yet (outcomes past)) (taken_requests past) (r ∷ [])))
hand_is s (Told o ∷ past) l d = ap (filter (λ r. not (is_for r o))) (hand_is s past l.1 d) ∙ one_more (outcomes past) o (taken_requests past)
hand_is s (Got f ∷ past) l d = hand_is s past l.1 d
hand_is s (Sent f ∷ past) l d = hand_is s past l.1 d
hand_is s (Heard k e line ∷ past) l d = hand_is s past l.1 d
hand_is s (Tick ∷ past) l d = hand_is s past l.1 d
hand_is s (Lost ∷ past) l d = hand_is s past l.1 d
hand_is s (Held e ∷ past) l d = hand_is s past l.1 d
hand_is s (Freed e ∷ past) l d = hand_is s past l.1 d
hand_is s (Given ∷ past) l d = hand_is s past l.1 d
