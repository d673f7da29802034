-- What a session comes to, for the headline.
use Rattle.std.proofs.Common.{ap, sym, subst, ◌∙◌, eqb-true}
use Rattle.std.proofs.lemmas.Bool.{and_parts, and_from}
use Rattle.std.proofs.lemmas.List.{append_assoc, append-nil}
use Rattle.std.proofs.lemmas.List.Elements.{filter-append, All-nil, All-cons}
use Rattle.std.proofs.lemmas.List.Folds.{list_any-append}
use Rattle.std.specs.Prelude.{◌≡◌, ℕ, zero, suc, ◌==◌, ◌||◌, Bool, true, false, List, [], ◌∷◌, ◌++◌, map, refl, if◌then◌else◌, All}
use Rattle.std.specs.List.{list_all, list_any}
use mathlib.Core.Option.{some, some-injective, some-ne-none}
use lib.ListN.{get_elem?}
use Rattle.mux_station.specs.Written.{is_data_frame}
use Rattle.mux_station.specs.Opening.{is_open}
use Rattle.mux_station.specs.declared.role.Role.TheVariants.{Initiator}
use Rattle.modem_desk.specs.declared.request.Request.{Request}
use Rattle.modem_desk.specs.declared.request.Outcome.{Outcome}
use Rattle.modem_desk.specs.Rule.{of_caller}
use Rattle.modem_desk.specs.Ends.{ListenerView, subscription_of}
use Rattle.modem_history.specs.Acts.{Act, Took, Got, Sent, Told, Heard, Tick, Lost, Held, Freed, Given, is_for, wire}
use Rattle.modem_history.specs.Information.{command_on}
use Rattle.modem_history.specs.Lawful.{Gated, Lawful, When, owed}
use Rattle.modem_history.specs.Sessions as session
use Rattle.modem_history.specs.Sessions.{Beginning, SessionFits, SessionView, TakesWithRoom, driving}
use Rattle.modem_history.proofs.law_proofs.SessionLaws.{distinct_taken}
use Rattle.modem_history.specs.Hearing.{HearsAll}
use Rattle.modem_history.specs.Wholes.{TellsOwn, taken_requests}
use Rattle.modem_history.proofs.lists.Filters.{swapped}
use Rattle.modem_history.proofs.lines.HeardLines.{hears_all}
use Rattle.modem_history.proofs.outcomes.WholeCounts.{lawful_part}
use Rattle.modem_history.proofs.outcomes.OwnAnswers.{tells_own}
use Rattle.modem_history.proofs.outcomes.SingleOutcomes.{uses_once}
use Rattle.modem_driver.specs.Headline.{AnswersOwn, HearsEach, InSubmittedOrder, NoneAfterClose, SendsFull}
use Rattle.modem_core.proofs.replays.FullFrames.{turns_are_full}
use Rattle.modem_driver.proofs.law_proofs.SubmittedOrder.{Stretch, stretch_of}
use Rattle.modem_history.proofs.rules.MadeLaws.{laws_of}

-- ## What leaves

-- where each request was taken with room, so it was at every moment before
pub room_before : (newer older : List Act) → TakesWithRoom (newer ++ older) → TakesWithRoom older
room_before [] older h = h
room_before (Took r ∷ newer) older h = room_before newer older h.1
room_before (Got f ∷ newer) older h = room_before newer older h
room_before (Sent f ∷ newer) older h = room_before newer older h
room_before (Told o ∷ newer) older h = room_before newer older h
room_before (Heard k d line ∷ newer) older h = room_before newer older h
room_before (Tick ∷ newer) older h = room_before newer older h
room_before (Lost ∷ newer) older h = room_before newer older h
room_before (Held d ∷ newer) older h = room_before newer older h
room_before (Freed d ∷ newer) older h = room_before newer older h
room_before (Given ∷ newer) older h = room_before newer older h

-- what was taken at an earlier moment comes first
pub taken_both : (newer older : List Act) → taken_requests (newer ++ older) ≡ taken_requests older ++ taken_requests newer
taken_both [] older = sym (append-nil (taken_requests older))
taken_both (Took r ∷ newer) older = ap (λ (qs : List Request). qs ++ r ∷ []) (taken_both newer older) ∙ append_assoc (taken_requests older) (taken_requests newer) (r ∷ [])
taken_both (Got f ∷ newer) older = taken_both newer older
taken_both (Sent f ∷ newer) older = taken_both newer older
taken_both (Told o ∷ newer) older = taken_both newer older
taken_both (Heard k d line ∷ newer) older = taken_both newer older
taken_both (Tick ∷ newer) older = taken_both newer older
taken_both (Lost ∷ newer) older = taken_both newer older
taken_both (Held d ∷ newer) older = taken_both newer older
taken_both (Freed d ∷ newer) older = taken_both newer older
taken_both (Given ∷ newer) older = taken_both newer older

-- at every moment, where a caller submitted what the history took of it, between these
pub order_of : (n : ℕ) (submitted earlier last : List Request) (b : Beginning) (v : SessionView) (past : List Act) → SessionFits b v past
    → submitted ≡ earlier ++ (of_caller n (taken_requests past) ++ last) → (newer older : List Act) → past ≡ newer ++ older → (d : ℕ) → InSubmittedOrder d older n submitted
order_of n submitted earlier last b v past f whole newer older joins d =
    let own = λ (q : Request). q.caller == n in
    let st : Stretch d older = stretch_of d older (room_before newer older (subst TakesWithRoom joins (laws_of f.history).room)) in
    let after = of_caller n (taken_requests newer) ++ last in
    let first : submitted ≡ earlier ++ (of_caller n (taken_requests older) ++ after) =
    whole
    ∙ (ap (λ (qs : List Request). earlier ++ (of_caller n qs ++ last)) (ap taken_requests joins ∙ taken_both newer older)
    ∙ ap (λ (qs : List Request). earlier ++ qs)
    (ap (λ (qs : List Request). qs ++ last) (filter-append own (taken_requests older) (taken_requests newer)) ∙ append_assoc (of_caller n (taken_requests older)) (of_caller n (taken_requests newer)) last)) in
    record {
      before = earlier ++ of_caller n st.before;
      stretch = of_caller n st.stretch;
      later = of_caller n st.later ++ after;
      submitted_are =
          first
          ∙ (ap (λ (qs : List Request). earlier ++ qs)
          (ap (λ (qs : List Request). of_caller n qs ++ after) st.taken_are
          ∙ (ap (λ (qs : List Request). qs ++ after) (filter-append own st.before (st.stretch ++ st.later) ∙ ap (λ (qs : List Request). of_caller n st.before ++ qs) (filter-append own st.stretch st.later))
          ∙ (append_assoc (of_caller n st.before) (of_caller n st.stretch ++ of_caller n st.later) after
          ∙ ap (λ (qs : List Request). of_caller n st.before ++ qs) (append_assoc (of_caller n st.stretch) (of_caller n st.later) after))))
          ∙ (sym (append_assoc earlier (of_caller n st.before) (of_caller n st.stretch ++ (of_caller n st.later ++ after)))
          ∙ sym (append_assoc (earlier ++ of_caller n st.before) (of_caller n st.stretch) (of_caller n st.later ++ after))));
      commands_are = ap (of_caller n) st.commands ∙ swapped own (λ (q : Request). command_on d q.ask) st.stretch;
    }

-- data leaves only while its connection is open
pub while_open : (b : Beginning) (past : List Act) → Lawful (driving b) past → NoneAfterClose past
unfolding Lawful
while_open b past l newer older f joins is_data =
    let here = lawful_part (driving b) newer (Sent f ∷ older) (subst (Lawful (driving b)) joins l) in
    by_data (is_data_frame f) is_data here.0.gated
  where
    by_data : (c : Bool) → c ≡ true → When c (Gated (driving b) older (owed (driving b) older) f) → is_open Initiator f.dlci (wire older) ≡ true
    by_data true e g = g.is_open
    by_data false e g = cc

-- ## What is answered, and what is announced

-- each answer has the lines of the request's own command
pub answers_own : (b : Beginning) (v : SessionView) (past : List Act) → SessionFits b v past → AnswersOwn b past
unfolding TellsOwn
answers_own b v past f = tells_own (driving b) past (laws_of f.history).lawful refl (laws_of f.history).calls (uses_once (taken_requests past) (distinct_taken b v past f))

-- on each connection all lines of a listened kind that no answer holds were heard, once and in order
pub hears_each : (b : Beginning) (v : SessionView) (past : List Act) → SessionFits b v past → HearsEach b past
unfolding HearsAll
hears_each b v past f = hears_all (driving b) past (laws_of f.history).lawful (laws_of f.history).complete

-- a listener's subscription is at its place
pub subscription_at : (ls : List ListenerView) (i : ℕ) (l : ListenerView) → get_elem? ls i ≡ some l → get_elem? (map subscription_of ls) i ≡ some l.subscription
subscription_at [] i l e = absurd (some-ne-none l (sym e))
subscription_at (x ∷ xs) zero l e = ap (λ (y : ListenerView). some y.subscription) (some-injective x l e)
subscription_at (x ∷ xs) (suc i) l e = subscription_at xs i l e

-- ## What each caller holds

-- the requests of a caller are its own
pub of_its_own : (n : ℕ) (qs : List Request) → All (λ q. q.caller ≡ n) (of_caller n qs)
of_its_own n [] = All-nil (λ q. q.caller ≡ n)
of_its_own n (q ∷ qs) = by_caller (q.caller == n) refl (of_its_own n qs)
  where
    by_caller : (b : Bool) → (q.caller == n) ≡ b → All (λ x. x.caller ≡ n) (of_caller n qs) → All (λ x. x.caller ≡ n) (if b then q ∷ of_caller n qs else of_caller n qs)
    by_caller true h rest = All-cons (λ x. x.caller ≡ n) q (of_caller n qs) (eqb-true q.caller n h) rest
    by_caller false h rest = rest

-- ## Each outcome answers a request of its caller's

-- an outcome that answers one of some requests answers one of more
pub any_more : (o : Outcome) (xs ys : List Request) → list_any (λ q. is_for q o) xs ≡ true → list_any (λ q. is_for q o) (xs ++ ys) ≡ true
any_more o xs ys h = list_any-append (λ q. is_for q o) xs ys ∙ ap (λ (b : Bool). b || list_any (λ q. is_for q o) ys) h

-- whom it answers is a request of its own caller
answers_one : (o : Outcome) (qs : List Request) → list_any (λ q. is_for q o) qs ≡ true → list_any (λ q. is_for q o) (of_caller o.caller qs) ≡ true
answers_one o [] h = cc
answers_one o (q ∷ qs) h = by_tests (is_for q o) (q.caller == o.caller) refl refl h (answers_one o qs)
  where
    by_tests : (a b : Bool) → is_for q o ≡ a → (q.caller == o.caller) ≡ b → (a || list_any (λ x. is_for x o) qs) ≡ true
        → (list_any (λ x. is_for x o) qs ≡ true → list_any (λ x. is_for x o) (of_caller o.caller qs) ≡ true) → list_any (λ x. is_for x o) (if b then q ∷ of_caller o.caller qs else of_caller o.caller qs) ≡ true
    by_tests true true e k g more = ap (λ (b : Bool). b || list_any (λ x. is_for x o) (of_caller o.caller qs)) e
    by_tests true false e k g more = let n : false ≡ true = sym k ∙ (and_parts (q.caller == o.caller) (q.number == o.number) e).0 in cc
    by_tests false true e k g more = ap (λ (b : Bool). b || list_any (λ x. is_for x o) (of_caller o.caller qs)) e ∙ more g
    by_tests false false e k g more = more g

-- outcomes that answer requests: those of a caller answer requests of its own
pub own_answers : (n : ℕ) (qs more : List Request) (os : List Outcome) → list_all (λ o. list_any (λ q. is_for q o) qs) os ≡ true → list_all (λ o. list_any (λ q. is_for q o) (of_caller n qs ++ more)) (session.caller_outcomes n os) ≡ true
own_answers n qs more [] h = refl
own_answers n qs more (o ∷ os) h =
    let parts = and_parts (list_any (λ q. is_for q o) qs) (list_all (λ p. list_any (λ q. is_for q p) qs) os) h in
    by_caller (o.caller == n) refl parts.0 (own_answers n qs more os parts.1)
  where
    test : Outcome → Bool
    test p = list_any (λ q. is_for q p) (of_caller n qs ++ more)

    by_caller : (b : Bool) → (o.caller == n) ≡ b → list_any (λ q. is_for q o) qs ≡ true → list_all test (session.caller_outcomes n os) ≡ true
        → list_all test (if b then o ∷ session.caller_outcomes n os else session.caller_outcomes n os) ≡ true
    by_caller true e here rest =
        and_from (test o) (list_all test (session.caller_outcomes n os)) (any_more o (of_caller n qs) more (subst (λ (m : ℕ). list_any (λ q. is_for q o) (of_caller m qs) ≡ true) (eqb-true o.caller n e) (answers_one o qs here))) rest
    by_caller false e here rest = rest

-- in every history of a session all data frames of a command but the last have N1 octets
pub sends_full : (b : Beginning) (v : SessionView) (past : List Act) → SendsFull b v past
unfolding SendsFull
sends_full b v past f = turns_are_full (driving b) past (laws_of f.history).in_turn
