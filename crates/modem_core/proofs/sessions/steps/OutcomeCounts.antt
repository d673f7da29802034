-- Each outcome takes a request out of those in hand, and is its caller's.
use Rattle.std.proofs.Common.{ap, sym, ◌∙◌, subst, arith, eqb-true}
use Rattle.std.proofs.lemmas.Bool.{and_parts}
use Rattle.std.proofs.lemmas.List.Elements.{filter-append}
use Rattle.std.proofs.lemmas.List.{length-append}
use Rattle.std.specs.Prelude.{◌≡◌, ℕ, ◌+◌, ◌≤◌, ◌==◌, ◌&&◌, ◌||◌, not, nat_lt, Bool, true, false, List, [], ◌∷◌, ◌++◌, length, filter, refl, if◌then◌else◌}
use Rattle.std.specs.List.{list_all, list_any}
use Rattle.modem_desk.specs.declared.request.Request.{Request}
use Rattle.modem_desk.specs.declared.request.Outcome.{Outcome}
use Rattle.modem_history.specs.Acts.{Act, Took, Got, Sent, Told, Heard, Tick, Lost, Held, Freed, Given, after, is_for, in_hand, without}
use Rattle.modem_history.specs.Requests.{are_distinct}
use Rattle.modem_history.specs.Calls.{Setting}
use Rattle.modem_history.specs.Lawful.{Lawful}
use Rattle.modem_history.specs.Wholes.{is_said, taken_requests, outcomes}
use Rattle.modem_history.specs.SessionLaws.{untold}
use Rattle.modem_history.specs.Turns.{outcomes_told}
use Rattle.modem_history.proofs.calls.CalledActs.{Saids}
use Rattle.modem_history.proofs.outcomes.WholeCounts.{answers_once}
use Rattle.modem_history.proofs.outcomes.SingleOutcomes.{uses_once}
use Rattle.modem_history.proofs.requests.UntoldRequests.{hand_is}

unsaid : {P : Type 0} → false ≡ true → P
unsaid e = cc

-- a history is lawful as far as it came
pub lawful_front : (s : Setting) (acts past : List Act) → Lawful s (after past acts) → Lawful s past
unfolding Lawful
lawful_front s [] past l = l
lawful_front s (a ∷ acts) past l = (lawful_front s acts (a ∷ past) l).1

-- ## How many are in hand

-- where no element is left by a test, none passes it
pub none_passes : {A : Type 0} (t : A → Bool) (xs : List A) → length (filter t xs) ≡ 0 → list_any t xs ≡ false
none_passes t [] h = refl
none_passes t (x ∷ xs) h = by_test (t x) refl (none_passes t xs)
  where
    by_test : (c : Bool) → t x ≡ c → (length (filter t xs) ≡ 0 → list_any t xs ≡ false) → (c || list_any t xs) ≡ false
    by_test false e go = go (sym (ap (λ (y : Bool). length (if y then x ∷ filter t xs else filter t xs)) e) ∙ h)
    by_test true e go = absurd (let one : length (x ∷ filter t xs) ≡ 0 = sym (ap (λ (y : Bool). length (if y then x ∷ filter t xs else filter t xs)) e) ∙ h in omega arith)

-- some that pass a test are left by a test that they all pass
pub any_left : {A : Type 0} (t p : A → Bool) → ((x : A) → t x ≡ true → p x ≡ true) → (xs : List A) → list_any t xs ≡ true → list_any t (filter p xs) ≡ true
any_left t p both [] h = unsaid h
any_left t p both (x ∷ xs) h = by_tests (t x) (p x) refl refl h (any_left t p both xs)
  where
    by_tests : (c d : Bool) → t x ≡ c → p x ≡ d → (c || list_any t xs) ≡ true → (list_any t xs ≡ true → list_any t (filter p xs) ≡ true) → list_any t (if d then x ∷ filter p xs else filter p xs) ≡ true
    by_tests true true e k m go = ap (λ (y : Bool). y || list_any t (filter p xs)) e
    by_tests true false e k m go = unsaid (sym k ∙ both x e)
    by_tests false true e k m go = ap (λ (y : Bool). y || list_any t (filter p xs)) e ∙ go m
    by_tests false false e k m go = go m

-- without those that pass there are fewer, where one passes
fewer : {A : Type 0} (t : A → Bool) (xs : List A) → length (filter (λ x. not (t x)) xs) ≤ length xs
fewer t [] = omega arith
fewer t (x ∷ xs) = by_test (t x) (fewer t xs)
  where
    by_test : (c : Bool) → length (filter (λ x. not (t x)) xs) ≤ length xs → length (if not c then x ∷ filter (λ x. not (t x)) xs else filter (λ x. not (t x)) xs) ≤ length (x ∷ xs)
    by_test true h = omega arith
    by_test false h = omega arith

one_fewer : {A : Type 0} (t : A → Bool) (xs : List A) → list_any t xs ≡ true → length (filter (λ x. not (t x)) xs) + 1 ≤ length xs
one_fewer t [] h = unsaid h
one_fewer t (x ∷ xs) h = by_test (t x) h (one_fewer t xs)
  where
    by_test : (c : Bool) → (c || list_any t xs) ≡ true → (list_any t xs ≡ true → length (filter (λ x. not (t x)) xs) + 1 ≤ length xs)
        → length (if not c then x ∷ filter (λ x. not (t x)) xs else filter (λ x. not (t x)) xs) + 1 ≤ length (x ∷ xs)
    by_test true m go = let few = fewer t xs in omega arith
    by_test false m go = let few = go m in omega arith

-- an outcome that may be told next takes at least one out
told_takes : (s : Setting) (o : Outcome) (past : List Act) → Lawful s (Told o ∷ past) → are_distinct (taken_requests past) ≡ true → length (without o (in_hand past)) + 1 ≤ length (in_hand past)
unfolding Lawful
told_takes s o past l distinct =
    let answers = answers_once s (Told o ∷ past) l in
    let asked : list_any (λ r. is_for r o) (taken_requests past) ≡ true = answers.earlier [] past o refl in
    let waits_yet : (r : Request) → is_for r o ≡ true → not (list_any (λ o. is_for r o) (outcomes past)) ≡ true = λ r own.
    let last : filter (λ o. is_for r o) (o ∷ []) ≡ o ∷ [] = ap (λ (y : Bool). if y then o ∷ [] else []) own in
    let all : length (filter (λ o. is_for r o) (outcomes past ++ o ∷ [])) ≡ length (filter (λ o. is_for r o) (outcomes past)) + 1 =
    ap length (filter-append (λ o. is_for r o) (outcomes past) (o ∷ []) ∙ ap (λ (os : List Outcome). filter (λ o. is_for r o) (outcomes past) ++ os) last)
    ∙ length-append (filter (λ o. is_for r o) (outcomes past)) (o ∷ []) in
    let few = answers.once (uses_once (taken_requests past) distinct) r in
    ap not (none_passes (λ o. is_for r o) (outcomes past) (omega arith)) in
    let among : list_any (λ r. is_for r o) (untold past) ≡ true = any_left (λ r. is_for r o) (λ r. not (list_any (λ o. is_for r o) (outcomes past))) waits_yet (taken_requests past) asked in
    let hand = hand_is s past l.1 distinct in
    one_fewer (λ r. is_for r o) (in_hand past) (subst (λ (rs : List Request). list_any (λ r. is_for r o) rs ≡ true) (sym hand) among)

-- as many are told as leave those in hand, at most
pub hand_counts : (s : Setting) (acts past : List Act) → Lawful s (after past acts) → are_distinct (taken_requests past) ≡ true → Saids acts → length (in_hand (after past acts)) + length (outcomes_told acts) ≤ length (in_hand past)
hand_counts s [] past l distinct h = omega arith
hand_counts s (Told o ∷ acts) past l distinct h =
    let later = hand_counts s acts (Told o ∷ past) l distinct h in
    let one = told_takes s o past (lawful_front s acts (Told o ∷ past) l) distinct in
    omega arith
hand_counts s (Sent f ∷ acts) past l distinct h = hand_counts s acts (Sent f ∷ past) l distinct (and_parts (is_said (Sent f)) (list_all is_said acts) h).1
hand_counts s (Heard k d line ∷ acts) past l distinct h = hand_counts s acts (Heard k d line ∷ past) l distinct h
hand_counts s (Took r ∷ acts) past l distinct h = unsaid h
hand_counts s (Got f ∷ acts) past l distinct h = unsaid h
hand_counts s (Tick ∷ acts) past l distinct h = unsaid h
hand_counts s (Lost ∷ acts) past l distinct h = unsaid h
hand_counts s (Held d ∷ acts) past l distinct h = unsaid h
hand_counts s (Freed d ∷ acts) past l distinct h = unsaid h
hand_counts s (Given ∷ acts) past l distinct h = unsaid h

-- ## Whose outcomes they are

-- a caller of the first so many
abbrev pub is_caller : ℕ → Request → Bool
is_caller n q = nat_lt q.caller n

-- an outcome for a caller of the first so many
abbrev pub is_callers : ℕ → Outcome → Bool
is_callers n o = nat_lt o.caller n

its_caller : (n : ℕ) (o : Outcome) (qs : List Request) → list_all (is_caller n) qs ≡ true → list_any (λ q. is_for q o) qs ≡ true → is_callers n o ≡ true
its_caller n o [] h k = unsaid k
its_caller n o (q ∷ qs) h k =
    let parts = and_parts (is_caller n q) (list_all (is_caller n) qs) h in
    by_test (is_for q o) refl k parts.0 (its_caller n o qs parts.1)
  where
    by_test : (c : Bool) → is_for q o ≡ c → (c || list_any (λ q. is_for q o) qs) ≡ true → is_caller n q ≡ true → (list_any (λ q. is_for q o) qs ≡ true → is_callers n o ≡ true) → is_callers n o ≡ true
    by_test true e m one go = ap (λ (i : ℕ). nat_lt i n) (sym (eqb-true q.caller o.caller (and_parts (q.caller == o.caller) (q.number == o.number) e).0)) ∙ one
    by_test false e m one go = go m

both_true : (c d : Bool) → c ≡ true → d ≡ true → (c && d) ≡ true
both_true true d h k = k
both_true false d h k = unsaid h

-- where all requests are of those callers, so are all outcomes that are told
pub callers_told : (s : Setting) (n : ℕ) (acts past : List Act) → Lawful s (after past acts) → list_all (is_caller n) (taken_requests past) ≡ true → Saids acts → list_all (is_callers n) (outcomes_told acts) ≡ true
callers_told s n [] past l callers h = refl
callers_told s n (Told o ∷ acts) past l callers h =
    let asked = (answers_once s (Told o ∷ past) (lawful_front s acts (Told o ∷ past) l)).earlier [] past o refl in
    both_true _ _ (its_caller n o (taken_requests past) callers asked) (callers_told s n acts (Told o ∷ past) l callers h)
callers_told s n (Sent f ∷ acts) past l callers h = callers_told s n acts (Sent f ∷ past) l callers (and_parts (is_said (Sent f)) (list_all is_said acts) h).1
callers_told s n (Heard k d line ∷ acts) past l callers h = callers_told s n acts (Heard k d line ∷ past) l callers h
callers_told s n (Took r ∷ acts) past l callers h = unsaid h
callers_told s n (Got f ∷ acts) past l callers h = unsaid h
callers_told s n (Tick ∷ acts) past l callers h = unsaid h
callers_told s n (Lost ∷ acts) past l callers h = unsaid h
callers_told s n (Held d ∷ acts) past l callers h = unsaid h
callers_told s n (Freed d ∷ acts) past l callers h = unsaid h
callers_told s n (Given ∷ acts) past l callers h = unsaid h
