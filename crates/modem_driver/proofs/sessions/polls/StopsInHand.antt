-- Which outcomes end a Stop, and how many Stops are in hand.
use Rattle.std.proofs.Common.{ap, ◌∙◌, arith}
use Rattle.std.proofs.lemmas.Bool.{and_parts}
use Rattle.std.proofs.lemmas.List.Folds.{list_any-append}
use Rattle.std.specs.Prelude.{◌≡◌, ℕ, ◌≤◌, ◌&&◌, ◌||◌, not, Bool, true, false, List, [], ◌∷◌, ◌++◌, filter, filter_map, length, refl, Option, None, Some, option_map, if◌then◌else◌}
use Rattle.std.specs.List.{cons_option, list_all, list_any}
use Rattle.mux_station.specs.States.{State}
use Rattle.modem_desk.specs.declared.request.Answer.{Answer}
use Rattle.modem_desk.specs.declared.request.Outcome.{Outcome}
use Rattle.modem_desk.specs.declared.request.Request.{Request}
use Rattle.modem_history.specs.Acts.{Act, Took, Got, Sent, Told, Heard, Tick, Lost, Held, Freed, Given, after, is_for, in_hand, told}
use Rattle.modem_history.specs.Calls.{HistoryView, later, told_later}
use Rattle.modem_history.specs.Wholes.{is_said, outcomes, taken_requests}
use Rattle.modem_history.specs.Turns.{outcomes_told}
use Rattle.modem_history.proofs.calls.CalledActs.{Saids}
use Rattle.modem_queues.specs.Stops.{ends_stop, is_stop, is_stopped_by}
use Rattle.modem_core.proofs.sessions.steps.LongerHistories.{outcomes_after}
use Rattle.modem_driver.proofs.sessions.polls.StopProgress.{NoneEnds}

-- ## Outcomes that end none

-- by this outcome a Stop has ended
abbrev pub ends : Outcome → Bool
ends o = ends_stop o.answer

-- by what is told, if anything, a Stop has ended
abbrev pub ends_by : Option Answer → Bool
ends_by None = false
ends_by (Some why) = ends_stop why

-- where neither of two would end one, whichever is told doesn't
pub unless_ends : (c : Bool) (x y : Option Answer) → ends_by x ≡ false → ends_by y ≡ false → ends_by (if c then x else y) ≡ false
unless_ends true x y h k = h
unless_ends false x y h k = k

-- those that wait are told nothing that ends a Stop, where what keeps a Stop waiting is so
pub later_ends : (P : Type 0) (v : HistoryView) (now : ℕ → State) (a : Act) (rs : List Request) → ((r : Request) → (is_stop r ≡ true → P) → ends_by (later v now a r r.ask) ≡ false) → (list_any is_stop rs ≡ true → P)
    → list_any ends (outcomes_told (filter_map (told_later v now a) rs)) ≡ false
later_ends P v now a [] h k = refl
later_ends P v now a (r ∷ rs) h k =
    by_answer (later v now a r r.ask) (h r (λ e. k (ap (λ (c : Bool). c || list_any is_stop rs) e))) (later_ends P v now a rs h (λ e. k (or_right (is_stop r) (list_any is_stop rs) e)))
  where
    or_right : (c e : Bool) → e ≡ true → (c || e) ≡ true
    or_right true e h = refl
    or_right false e h = h

    by_answer : (o : Option Answer) → ends_by o ≡ false → list_any ends (outcomes_told (filter_map (told_later v now a) rs)) ≡ false → list_any ends (outcomes_told (cons_option (option_map (told r) o) (filter_map (told_later v now a) rs))) ≡ false
    by_answer None e k = k
    by_answer (Some why) e k = ap (λ (c : Bool). c || list_any ends (outcomes_told (filter_map (told_later v now a) rs))) e ∙ k

-- tests that are the same of each are the same of any
pub any_same : {X : Type 0} (p q : X → Bool) (xs : List X) → ((x : X) → p x ≡ q x) → list_any p xs ≡ list_any q xs
any_same p q [] h = refl
any_same p q (x ∷ xs) h = ap (λ (c : Bool). c || list_any p xs) (h x) ∙ ap (λ (c : Bool). q x || c) (any_same p q xs h)

-- where none of all ends a Stop, none ends that of one request
pub none_for : (q : Request) (os : List Outcome) → list_any ends os ≡ false → list_any (λ (o : Outcome). is_for q o && ends_stop o.answer) os ≡ false
none_for q [] h = refl
none_for q (o ∷ os) h = by_tests (is_for q o) (ends o) h (none_for q os)
  where
    by_tests : (c e : Bool) → (e || list_any ends os) ≡ false → (list_any ends os ≡ false → list_any (λ (x : Outcome). is_for q x && ends_stop x.answer) os ≡ false) → ((c && e) || list_any (λ (x : Outcome). is_for q x && ends_stop x.answer) os) ≡ false
    by_tests c true k go = cc
    by_tests true false k go = go k
    by_tests false false k go = go k

and_or : (c x y : Bool) → (c && (x || y)) ≡ ((c && x) || (c && y))
and_or true x y = refl
and_or false x y = refl

-- outcomes end a request's Stop where the first do or the others do
pub stopped_both : (os ps : List Outcome) (q : Request) → is_stopped_by (os ++ ps) q ≡ (is_stopped_by os q || is_stopped_by ps q)
stopped_both os ps q =
    ap (λ (c : Bool). is_stop q && c) (list_any-append (λ (o : Outcome). is_for q o && ends_stop o.answer) os ps)
    ∙ and_or (is_stop q) (list_any (λ (o : Outcome). is_for q o && ends_stop o.answer) os) (list_any (λ (o : Outcome). is_for q o && ends_stop o.answer) ps)

or_none : (x y : Bool) → y ≡ false → (x || y) ≡ x
or_none true y e = refl
or_none false y e = e

and_none : (x y : Bool) → y ≡ false → (x && y) ≡ false
and_none true y e = e
and_none false y e = refl

-- what ends none leaves each request as it was
pub stopped_still : (os ps : List Outcome) (q : Request) → list_any ends ps ≡ false → is_stopped_by (os ++ ps) q ≡ is_stopped_by os q
stopped_still os ps q h = stopped_both os ps q ∙ or_none (is_stopped_by os q) (is_stopped_by ps q) (and_none (is_stop q) _ (none_for q ps h))

-- where acts tell nothing that ends a Stop, those that have ended stay the same
pub still_stopped : (acts past : List Act) (qs : List Request) → list_any ends (outcomes_told acts) ≡ false → list_any (is_stopped_by (outcomes (after past acts))) qs ≡ list_any (is_stopped_by (outcomes past)) qs
still_stopped acts past qs h =
    any_same (is_stopped_by (outcomes (after past acts))) (is_stopped_by (outcomes past)) qs
    (λ q. ap (λ (os : List Outcome). is_stopped_by os q) (outcomes_after acts past) ∙ stopped_still (outcomes past) (outcomes_told acts) q h)

-- and where they take no request either, none has ended by them
pub none_ends : (acts past : List Act) → taken_requests (after past acts) ≡ taken_requests past → list_any ends (outcomes_told acts) ≡ false → NoneEnds past acts
none_ends acts past same h none = ap (list_any (is_stopped_by (outcomes (after past acts)))) same ∙ (still_stopped acts past (taken_requests past) h ∙ none)

-- ## Stops in hand

-- no more of those that are kept are Stops
pub stops_left : (keep : Request → Bool) (qs : List Request) → length (filter is_stop (filter keep qs)) ≤ length (filter is_stop qs)
stops_left keep [] = omega arith
stops_left keep (q ∷ qs) = by_tests (keep q) (is_stop q) refl (stops_left keep qs)
  where
    by_tests : (c e : Bool) → is_stop q ≡ e → length (filter is_stop (filter keep qs)) ≤ length (filter is_stop qs)
        → length (filter is_stop (if c then q ∷ filter keep qs else filter keep qs)) ≤ length (if e then q ∷ filter is_stop qs else filter is_stop qs)
    by_tests true true k h = let one = ap (λ (b : Bool). length (if b then q ∷ filter is_stop (filter keep qs) else filter is_stop (filter keep qs))) k in omega arith
    by_tests true false k h = let one = ap (λ (b : Bool). length (if b then q ∷ filter is_stop (filter keep qs) else filter is_stop (filter keep qs))) k in omega arith
    by_tests false true k h = omega arith
    by_tests false false k h = h

out : {P : Type 0} → false ≡ true → P
out e = cc

-- by what is said in a call no more Stops are in hand
pub said_stops : (more past : List Act) → Saids more → length (filter is_stop (in_hand (after past more))) ≤ length (filter is_stop (in_hand past))
said_stops [] past h = omega arith
said_stops (Told o ∷ more) past h =
    let later = said_stops more (Told o ∷ past) h in
    let fewer = stops_left (λ (r : Request). not (is_for r o)) (in_hand past) in
    omega (arith, later, fewer)
said_stops (Sent f ∷ more) past h = said_stops more (Sent f ∷ past) (and_parts (is_said (Sent f)) (list_all is_said more) h).1
said_stops (Heard k d line ∷ more) past h = said_stops more (Heard k d line ∷ past) h
said_stops (Took r ∷ more) past h = out h
said_stops (Got f ∷ more) past h = out h
said_stops (Tick ∷ more) past h = out h
said_stops (Lost ∷ more) past h = out h
said_stops (Held d ∷ more) past h = out h
said_stops (Freed d ∷ more) past h = out h
said_stops (Given ∷ more) past h = out h
