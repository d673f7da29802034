-- What all sessions on a desk come to.
use Rattle.std.proofs.Common.{ap, sym, subst, ◌∙◌, arith, eq-eqb, eqb-true}
use Rattle.std.proofs.lemmas.Bool.{and_parts, and_from}
use Rattle.std.proofs.lemmas.List.{append_assoc, append-nil, length-append, map-append}
use Rattle.std.proofs.lemmas.List.Elements.{filter-append, All-contains}
use Rattle.std.proofs.lemmas.List.Folds.{list_all-append, list_any-append}
use Rattle.std.specs.Prelude.{◌≡◌, ℕ, zero, suc, ◌+◌, ◌≤◌, ◌==◌, ◌&&◌, ◌||◌, Bool, true, false, List, [], ◌∷◌, ◌++◌, length, map, filter, flat_map, slice_index_or, refl, if◌then◌else◌, Contains}
use Rattle.std.specs.List.{list_all, list_any}
use mathlib.Core.Option.{some, some-injective, some-ne-none}
use lib.ListN.{get_elem?}
use Rattle.at_text.specs.declared.unsolicited.UrcKind.{UrcKind}
use Rattle.modem_desk.specs.declared.request.Request.{Request}
use Rattle.modem_desk.specs.declared.request.Outcome.{Outcome}
use Rattle.modem_desk.specs.declared.request.Urc.{Urc}
use Rattle.modem_desk.specs.Rule.{of_caller}
use Rattle.modem_desk.specs.Ends.{CallerView, Each}
use Rattle.modem_history.specs.Acts.{Act, is_for}
use Rattle.modem_history.specs.EveryTurn.{GivesSome}
use Rattle.modem_history.specs.Kinds.{of_kind}
use Rattle.modem_history.specs.Lawful.{Lawful}
use Rattle.modem_history.specs.SessionLaws.{untold}
use Rattle.modem_history.proofs.law_proofs.SessionLaws.{distinct_taken}
use Rattle.modem_history.specs.Sessions.{Beginning, EndView, Leftovers, SessionFits, SessionView, at_place, caller_outcomes, driving, heard_as, heards}
use Rattle.modem_history.specs.Wholes.{is_same, outcomes, taken_requests}
use Rattle.modem_history.proofs.commands.SentPrefixes.{leaves_once}
use Rattle.modem_history.proofs.outcomes.OutcomeCounts.{many, many_append}
use Rattle.modem_history.proofs.outcomes.WholeCounts.{answers_once, lawful_part, many_filtered}
use Rattle.modem_history.proofs.outcomes.SingleOutcomes.{of_its_caller, uses_once}
use Rattle.modem_history.proofs.requests.UntoldRequests.{all_answer, hand_is}
use Rattle.modem_driver.specs.DeskHeadline.{AnnouncedOver, DeskRun, Follow, HoldsOver, IsDeskHeadline, IsDeskSettled, IsSpell, Rest, RestsOf, Spell, SpellHeadline, outcomes_over}
use Rattle.modem_driver.specs.TurningAway.{line_lost}
use Rattle.modem_driver.proofs.law_proofs.GrownHistories.{fits_in}
use Rattle.modem_driver.proofs.law_proofs.Headlines.{any_more, answers_own, hears_each, of_its_own, order_of, own_answers, subscription_at, while_open}
use Rattle.modem_driver.proofs.law_proofs.RequestNumbers.{numbered_once}
use Rattle.modem_driver.proofs.law_proofs.RequestPlaces.{counted_own, is_counted, is_told, many_untold, no_answer, some_answer, told_taken}
use Rattle.modem_driver.proofs.sessions.polls.OfflinePasses.{gives_on, gives_then}
use Rattle.modem_history.proofs.rules.MadeLaws.{laws_of}

-- ## What rests of a session

-- these requests were told LineLost, and these were taken meanwhile
record RestFacts (kinds : List UrcKind) (f : Leftovers) (r : Rest) : Type 0 where
  lost : List Request
  more : List Request
  taken : r.desk.taken ≡ f.desk.taken ++ more
  places : r.in_hand ++ lost ≡ f.in_hand ++ more
  told : (c : ℕ) → GivesSome (at_place c f.desk.told) (at_place c r.desk.told) (caller_outcomes c f.unplaced ++ caller_outcomes c (map line_lost lost)) (caller_outcomes c r.unplaced)
  announced : (i : ℕ) (k : UrcKind) → get_elem? kinds i ≡ some k → GivesSome (at_place i f.desk.announced) (at_place i r.desk.announced) (of_kind k f.unannounced) (of_kind k r.unannounced)

abbrev own_of : ℕ → Outcome → Bool
own_of c o = o.caller == c

rest_facts : (kinds : List UrcKind) (callers : ℕ) {f : Leftovers} {r : Rest} → RestsOf kinds callers f r → RestFacts kinds f r
rest_facts kinds callers (RestsOf.rests_whole f) = record {
  lost = [];
  more = [];
  taken = sym (append-nil f.desk.taken);
  places = refl;
  told = λ c. record { given = []; given_are = sym (append-nil (at_place c f.desk.told)); rest_are = sym (append-nil (caller_outcomes c f.unplaced)) };
  announced = λ i k at. record { given = []; given_are = sym (append-nil (at_place i f.desk.announced)); rest_are = refl };
}
rest_facts kinds callers (RestsOf.turned_away f left before after taken same kinds_are callers_are t) =
    let lost = f.in_hand ++ taken in
    let lost_are : (f.unplaced ++ map line_lost f.in_hand) ++ map line_lost taken ≡ f.unplaced ++ map line_lost lost
    = append_assoc f.unplaced (map line_lost f.in_hand) (map line_lost taken) ∙ ap (λ (os : List Outcome). f.unplaced ++ os) (sym (map-append line_lost f.in_hand taken)) in
    record {
      lost = lost;
      more = taken;
      taken = t.taken_are ∙ ap (λ (d : EndView). d.taken ++ taken) same;
      places = refl;
      told = λ c.
          subst (λ (os : List Outcome). GivesSome (at_place c f.desk.told) (at_place c after.told) os (caller_outcomes c left.unplaced))
          (ap (caller_outcomes c) lost_are ∙ filter-append (own_of c) f.unplaced (map line_lost lost))
          (subst (λ (d : EndView). GivesSome (at_place c d.told) (at_place c after.told) (caller_outcomes c ((f.unplaced ++ map line_lost f.in_hand) ++ map line_lost taken)) (caller_outcomes c left.unplaced)) same (t.outcomes c));
      announced = λ i k at.
          subst (λ (d : EndView). GivesSome (at_place i d.announced) (at_place i after.announced) (of_kind k f.unannounced) (of_kind k left.unannounced)) same
          (t.lines i k (ap (λ (ks : List UrcKind). get_elem? ks i) kinds_are ∙ at));
    }

-- ## One session

module _ (kinds : List UrcKind) (callers : ℕ) (d : EndView) (s : Spell) (p : IsSpell kinds callers d s) where
  facts : RestFacts kinds s.leftovers s.rest
  facts = rest_facts kinds callers p.rests

-- all that was taken
abbrev taken_of : (kinds : List UrcKind) (callers : ℕ) (d : EndView) (s : Spell) → IsSpell kinds callers d s → List Request
taken_of kinds callers d s p = taken_requests s.past ++ (facts kinds callers d s p).more

spell_taken : (kinds : List UrcKind) (callers : ℕ) (d : EndView) (s : Spell) (p : IsSpell kinds callers d s) → s.rest.desk.taken ≡ d.taken ++ taken_of kinds callers d s p
spell_taken kinds callers d s p =
    let f = facts kinds callers d s p in
    f.taken
    ∙ (ap (λ (e : EndView). e.taken ++ f.more) p.finishes.desk_stays
    ∙ (ap (λ (qs : List Request). qs ++ f.more) (fits_in p.grown).requests.taken_are
    ∙ (ap (λ (e : EndView). (e.taken ++ taken_requests s.past) ++ f.more) p.begins
    ∙ append_assoc d.taken (taken_requests s.past) f.more)))

spell_told : (kinds : List UrcKind) (callers : ℕ) (d : EndView) (s : Spell) (p : IsSpell kinds callers d s) (c : ℕ)
    → GivesSome (at_place c d.told) (at_place c s.rest.desk.told) (caller_outcomes c (outcomes s.past) ++ caller_outcomes c (map line_lost (facts kinds callers d s p).lost)) (caller_outcomes c s.rest.unplaced)
spell_told kinds callers d s p c =
    let f = facts kinds callers d s p in
    let t = (fits_in p.grown).told.each c in
    let first : GivesSome (at_place c d.told) (at_place c s.session.desk.told) (caller_outcomes c (outcomes s.past)) (caller_outcomes c s.session.unplaced) = record {
      given = t.since;
      given_are = t.told_are ∙ ap (λ (e : EndView). at_place c e.told ++ t.since) p.begins;
      rest_are = t.outcomes_are;
    } in
    gives_on (at_place c d.told) (at_place c s.session.desk.told) (at_place c s.rest.desk.told) (caller_outcomes c (outcomes s.past)) (caller_outcomes c s.session.unplaced) (caller_outcomes c s.rest.unplaced) (caller_outcomes c (map line_lost f.lost)) first
    (subst (λ (os : List Outcome). GivesSome (at_place c s.session.desk.told) (at_place c s.rest.desk.told) (caller_outcomes c os ++ caller_outcomes c (map line_lost f.lost)) (caller_outcomes c s.rest.unplaced)) p.finishes.unplaced_are
    (subst (λ (e : EndView). GivesSome (at_place c e.told) (at_place c s.rest.desk.told) (caller_outcomes c s.leftovers.unplaced ++ caller_outcomes c (map line_lost f.lost)) (caller_outcomes c s.rest.unplaced)) p.finishes.desk_stays (f.told c)))

-- what was announced to the listener of this kind
record Heard (d : EndView) (s : Spell) (i : ℕ) (k : UrcKind) : Type 0 where
  here : List Urc
  announced_are : at_place i s.rest.desk.announced ≡ at_place i d.announced ++ here
  lines_are : map heard_as (here ++ of_kind k s.rest.unannounced) ≡ heards k s.past

spell_announced : (kinds : List UrcKind) (callers : ℕ) (d : EndView) (s : Spell) (p : IsSpell kinds callers d s) (i : ℕ) (k : UrcKind) → get_elem? kinds i ≡ some k → Heard d s i k
spell_announced kinds callers d s p i k at =
    let f = facts kinds callers d s p in
    let a = (fits_in p.grown).heard.each i k (ap (λ (ks : List UrcKind). get_elem? ks i) p.kinds_are ∙ at) in
    let first : GivesSome (at_place i d.announced) (at_place i s.session.desk.announced) (a.since ++ of_kind k s.session.unannounced) (of_kind k s.session.unannounced) = record {
      given = a.since;
      given_are = a.announced_are ∙ ap (λ (e : EndView). at_place i e.announced ++ a.since) p.begins;
      rest_are = refl;
    } in
    let both = gives_then (at_place i d.announced) (at_place i s.session.desk.announced) (at_place i s.rest.desk.announced) (a.since ++ of_kind k s.session.unannounced) (of_kind k s.session.unannounced) (of_kind k s.rest.unannounced) first
    (subst (λ (us : List Urc). GivesSome (at_place i s.session.desk.announced) (at_place i s.rest.desk.announced) (of_kind k us) (of_kind k s.rest.unannounced)) p.finishes.unannounced_are
    (subst (λ (e : EndView). GivesSome (at_place i e.announced) (at_place i s.rest.desk.announced) (of_kind k s.leftovers.unannounced) (of_kind k s.rest.unannounced)) p.finishes.desk_stays (f.announced i k at))) in
    record { here = both.given; announced_are = both.given_are; lines_are = ap (map heard_as) both.rest_are ∙ a.lines_are }

-- ## Counting

-- how many of the outcomes answer it
abbrev answers : Request → List Outcome → ℕ
answers r os = length (filter (λ (o : Outcome). is_for r o) os)

answers_both : (r : Request) (os ps : List Outcome) → answers r (os ++ ps) ≡ answers r os + answers r ps
answers_both r os ps = ap (length {A = Outcome}) (filter-append (λ (o : Outcome). is_for r o) os ps) ∙ length-append (filter (λ (o : Outcome). is_for r o) os) (filter (λ (o : Outcome). is_for r o) ps)

-- of its own caller's
answers_own_caller : (r : Request) (os : List Outcome) → answers r (caller_outcomes r.caller os) ≡ answers r os
answers_own_caller r os = ap (length {A = Outcome}) (of_its_caller r os)

-- those that were told LineLost
answers_lost : (r : Request) (qs : List Request) → answers r (map line_lost qs) ≡ length (filter (is_same r) qs)
answers_lost r [] = refl
answers_lost r (q ∷ qs) = by_test (is_same r q) (answers_lost r qs)
  where
    by_test : (b : Bool) → answers r (map line_lost qs) ≡ length (filter (is_same r) qs)
        → length (if b then line_lost q ∷ filter (λ (o : Outcome). is_for r o) (map line_lost qs) else filter (λ (o : Outcome). is_for r o) (map line_lost qs)) ≡ length (if b then q ∷ filter (is_same r) qs else filter (is_same r) qs)
    by_test true h = ap suc h
    by_test false h = h

-- in a history each request that was taken once has one outcome, or has none yet
counts_once : (b : Beginning) (v : SessionView) (past : List Act) → SessionFits b v past → (r : Request) → many r (taken_requests past) ≤ 1
    → answers r (outcomes past) + many r (untold past) ≡ many r (taken_requests past)
counts_once b v past f r few = by_told (is_told (outcomes past) r) refl
  where
    by_told : (t : Bool) → is_told (outcomes past) r ≡ t → answers r (outcomes past) + many r (untold past) ≡ many r (taken_requests past)
    by_told true t =
        let some_one = some_answer r (outcomes past) t in
        let most = (answers_once (driving b) past (laws_of f.history).lawful).once (uses_once (taken_requests past) (distinct_taken b v past f)) r in
        let waits : many r (untold past) ≡ 0 = many_untold r (outcomes past) (taken_requests past) ∙ ap (λ (c : Bool). if c then 0 else many r (taken_requests past)) t in
        let was = told_taken r (outcomes past) (taken_requests past) (all_answer (driving b) past (laws_of f.history).lawful) t in
        omega (arith, some_one, most, waits, was, few)
    by_told false t =
        let none = no_answer r (outcomes past) t in
        let waits : many r (untold past) ≡ many r (taken_requests past) = many_untold r (outcomes past) (taken_requests past) ∙ ap (λ (c : Bool). if c then 0 else many r (taken_requests past)) t in
        omega (arith, none, waits)

-- and so it is of a session with what became of the rest
spell_counts : (kinds : List UrcKind) (callers : ℕ) (d : EndView) (s : Spell) (p : IsSpell kinds callers d s) (r : Request) → many r (taken_of kinds callers d s p) ≤ 1
    → answers r ((spell_told kinds callers d s p r.caller).given ++ caller_outcomes r.caller s.rest.unplaced) + many r s.rest.in_hand ≡ many r (taken_of kinds callers d s p)
spell_counts kinds callers d s p r few =
    let f = facts kinds callers d s p in
    let c = r.caller in
    let whole : many r (taken_of kinds callers d s p) ≡ many r (taken_requests s.past) + many r f.more = many_append r (taken_requests s.past) f.more in
    let told : answers r ((spell_told kinds callers d s p c).given ++ caller_outcomes c s.rest.unplaced) ≡ answers r (outcomes s.past) + answers r (map line_lost f.lost)
    = ap (answers r) ((spell_told kinds callers d s p c).rest_are)
    ∙ (answers_both r (caller_outcomes c (outcomes s.past)) (caller_outcomes c (map line_lost f.lost))
    ∙ (ap (λ (n : ℕ). n + answers r (caller_outcomes c (map line_lost f.lost))) (answers_own_caller r (outcomes s.past)) ∙ ap (λ (n : ℕ). answers r (outcomes s.past) + n) (answers_own_caller r (map line_lost f.lost)))) in
    let lost : answers r (map line_lost f.lost) ≡ many r f.lost = answers_lost r f.lost ∙ many_filtered r f.lost in
    let hand : s.leftovers.in_hand ≡ untold s.past
    = p.finishes.hand_is ∙ hand_is (driving s.start) s.past (laws_of (fits_in p.grown).history).lawful (distinct_taken s.start s.session s.past (fits_in p.grown)) in
    let places : many r s.rest.in_hand + many r f.lost ≡ many r s.leftovers.in_hand + many r f.more
    = sym (many_append r s.rest.in_hand f.lost) ∙ (ap (many r) f.places ∙ many_append r s.leftovers.in_hand f.more) in
    let in_hand_are : many r s.leftovers.in_hand ≡ many r (untold s.past) = ap (many r) hand in
    let once = counts_once s.start s.session s.past (fits_in p.grown) r (omega (arith, whole, few)) in
    omega (arith, whole, told, lost, places, in_hand_are, once)

-- ## Each outcome answers a request that was taken

abbrev answered_in : List Request → Outcome → Bool
answered_in qs o = list_any (λ (q : Request). is_for q o) qs

any_before : (o : Outcome) (xs ys : List Request) → answered_in ys o ≡ true → answered_in (xs ++ ys) o ≡ true
any_before o xs ys h = list_any-append (λ (q : Request). is_for q o) xs ys ∙ (ap (λ (b : Bool). answered_in xs o || b) h ∙ last (answered_in xs o))
  where
    last : (b : Bool) → (b || true) ≡ true
    last true = refl
    last false = refl

all_wider : (p q : Outcome → Bool) → ((o : Outcome) → p o ≡ true → q o ≡ true) → (os : List Outcome) → list_all p os ≡ true → list_all q os ≡ true
all_wider p q wider [] h = refl
all_wider p q wider (o ∷ os) h =
    let parts = and_parts (p o) (list_all p os) h in
    and_from (q o) (list_all q os) (wider o parts.0) (all_wider p q wider os parts.1)

same_for : (q x : Request) → is_same q x ≡ true → is_for x (line_lost q) ≡ true
same_for q x h =
    let parts = and_parts (q.caller == x.caller) (q.number == x.number) h in
    ap (λ (b : Bool). b && (x.number == q.number)) (eq-eqb x.caller q.caller (sym (eqb-true q.caller x.caller parts.0))) ∙ eq-eqb x.number q.number (sym (eqb-true q.number x.number parts.1))

some_for : (q : Request) (qs : List Request) → 1 ≤ many q qs → answered_in qs (line_lost q) ≡ true
some_for q [] h = let n : 1 ≤ 0 = h in absurd (omega (arith, n))
some_for q (x ∷ xs) h = by_test (is_same q x) refl h (some_for q xs)
  where
    first : (b : Bool) → b ≡ true → (b || answered_in xs (line_lost q)) ≡ true
    first true e = refl
    first false e = cc

    later : (b : Bool) → answered_in xs (line_lost q) ≡ true → (b || answered_in xs (line_lost q)) ≡ true
    later true e = refl
    later false e = e

    by_test : (b : Bool) → is_same q x ≡ b → 1 ≤ many q (x ∷ xs) → (1 ≤ many q xs → answered_in xs (line_lost q) ≡ true) → answered_in (x ∷ xs) (line_lost q) ≡ true
    by_test true e k more = first (is_for x (line_lost q)) (same_for q x e)
    by_test false e k more = later (is_for x (line_lost q)) (more (let few = not_counted e in omega (arith, few, k)))
      where
        not_counted : is_same q x ≡ false → many q (x ∷ xs) ≡ many q xs
        not_counted z = sym (many_filtered q (x ∷ xs)) ∙ (ap (λ (b : Bool). length (if b then x ∷ filter (is_same q) xs else filter (is_same q) xs)) z ∙ many_filtered q xs)

lost_answered : (whole lost : List Request) → ((r : Request) → many r lost ≤ many r whole) → list_all (answered_in whole) (map line_lost lost) ≡ true
lost_answered whole [] within = refl
lost_answered whole (q ∷ qs) within =
    let both : (r : Request) → many r (q ∷ qs) ≡ many r (q ∷ []) + many r qs = λ r. many_append r (q ∷ []) qs in
    let mine = is_counted (q ∷ qs) q (0, omega arith, refl) in
    let here = within q in
    and_from (answered_in whole (line_lost q)) (list_all (answered_in whole) (map line_lost qs)) (some_for q whole (omega (arith, mine, here)))
    (lost_answered whole qs (λ r. let all = within r in let parts = both r in omega (arith, all, parts)))

spell_own : (kinds : List UrcKind) (callers : ℕ) (d : EndView) (s : Spell) (p : IsSpell kinds callers d s) (c : ℕ)
    → list_all (answered_in (of_caller c (taken_of kinds callers d s p))) ((spell_told kinds callers d s p c).given ++ caller_outcomes c s.rest.unplaced) ≡ true
spell_own kinds callers d s p c =
    let f = facts kinds callers d s p in
    let all = taken_of kinds callers d s p in
    let lost = map line_lost f.lost in
    let within : (r : Request) → many r f.lost ≤ many r all = λ r.
    let whole : many r all ≡ many r (taken_requests s.past) + many r f.more = many_append r (taken_requests s.past) f.more in
    let hand : s.leftovers.in_hand ≡ untold s.past
    = p.finishes.hand_is ∙ hand_is (driving s.start) s.past (laws_of (fits_in p.grown).history).lawful (distinct_taken s.start s.session s.past (fits_in p.grown)) in
    let places : many r s.rest.in_hand + many r f.lost ≡ many r s.leftovers.in_hand + many r f.more
    = sym (many_append r s.rest.in_hand f.lost) ∙ (ap (many r) f.places ∙ many_append r s.leftovers.in_hand f.more) in
    let in_hand_are : many r s.leftovers.in_hand ≡ many r (untold s.past) = ap (many r) hand in
    let fewer = few_untold (is_told (outcomes s.past) r) (many r (untold s.past)) (many r (taken_requests s.past)) (many_untold r (outcomes s.past) (taken_requests s.past)) in
    omega (arith, whole, places, in_hand_are, fewer) in
    let told : list_all (answered_in all) (outcomes s.past) ≡ true
    = all_wider (answered_in (taken_requests s.past)) (answered_in all) (λ o. any_more o (taken_requests s.past) f.more) (outcomes s.past) (all_answer (driving s.start) s.past (laws_of (fits_in p.grown).history).lawful) in
    let one = own_answers c all [] (outcomes s.past) told in
    let other = own_answers c all [] lost (lost_answered all f.lost within) in
    ap (list_all (answered_in (of_caller c all))) (spell_told kinds callers d s p c).rest_are
    ∙ (list_all-append (answered_in (of_caller c all)) (caller_outcomes c (outcomes s.past)) (caller_outcomes c lost)
    ∙ and_from (list_all (answered_in (of_caller c all)) (caller_outcomes c (outcomes s.past))) (list_all (answered_in (of_caller c all)) (caller_outcomes c lost)) (bare (caller_outcomes c (outcomes s.past)) (of_caller c all) one) (bare (caller_outcomes c lost) (of_caller c all) other))
  where
    few_untold : (b : Bool) (n m : ℕ) → n ≡ (if b then 0 else m) → n ≤ m
    few_untold true n m e = omega (arith, e)
    few_untold false n m e = omega (arith, e)

    bare : (os : List Outcome) (qs : List Request) → list_all (answered_in (qs ++ [])) os ≡ true → list_all (answered_in qs) os ≡ true
    bare os qs h = subst (λ (xs : List Request). list_all (answered_in xs) os ≡ true) (append-nil qs) h

-- ## All sessions

abbrev unplaced_over : List Spell → List Outcome
unplaced_over ss = flat_map (λ (s : Spell). s.rest.unplaced) ss

abbrev in_hand_over : List Spell → List Request
in_hand_over ss = flat_map (λ (s : Spell). s.rest.in_hand) ss

-- of one caller: what was taken of all, and what it was told
record Over (d e : EndView) (ss : List Spell) (c : ℕ) : Type 0 where
  taken : List Request
  taken_are : e.taken ≡ d.taken ++ taken
  since : List Outcome
  told_are : at_place c e.told ≡ at_place c d.told ++ since
  counts : (r : Request) → r.caller ≡ c → many r taken ≤ 1 → answers r (since ++ caller_outcomes c (unplaced_over ss)) + many r (in_hand_over ss) ≡ many r taken
  own : list_all (answered_in (of_caller c taken)) (since ++ caller_outcomes c (unplaced_over ss)) ≡ true

over : (kinds : List UrcKind) (callers : ℕ) (d e : EndView) (ss : List Spell) → Follow kinds callers d ss e → (c : ℕ) → Over d e ss c
over kinds callers d e [] follow c = record {
  taken = [];
  taken_are = ap (λ (v : EndView). v.taken) follow ∙ sym (append-nil d.taken);
  since = [];
  told_are = ap (λ (v : EndView). at_place c v.told) follow ∙ sym (append-nil (at_place c d.told));
  counts = λ r mine few. refl;
  own = refl;
}
over kinds callers d e (s ∷ ss) follow c =
    let p = follow.0 in
    let o = over kinds callers s.rest.desk e ss follow.1 c in
    let first = taken_of kinds callers d s p in
    let t = spell_told kinds callers d s p c in
    let unplaced : caller_outcomes c (unplaced_over (s ∷ ss)) ≡ caller_outcomes c s.rest.unplaced ++ caller_outcomes c (unplaced_over ss) = filter-append (own_of c) s.rest.unplaced (unplaced_over ss) in
    let taken : of_caller c (first ++ o.taken) ≡ of_caller c first ++ of_caller c o.taken = filter-append (λ (q : Request). q.caller == c) first o.taken in
    let mine = all_parts (answered_in (of_caller c first)) t.given (caller_outcomes c s.rest.unplaced) (spell_own kinds callers d s p c) in
    let others = all_parts (answered_in (of_caller c o.taken)) o.since (caller_outcomes c (unplaced_over ss)) o.own in
    let wide = λ (os : List Outcome) (h : list_all (answered_in (of_caller c first)) os ≡ true).
    all_wider (answered_in (of_caller c first)) (answered_in (of_caller c (first ++ o.taken))) (λ x k. ap (λ (qs : List Request). answered_in qs x) taken ∙ any_more x (of_caller c first) (of_caller c o.taken) k) os h in
    let wider = λ (os : List Outcome) (h : list_all (answered_in (of_caller c o.taken)) os ≡ true).
    all_wider (answered_in (of_caller c o.taken)) (answered_in (of_caller c (first ++ o.taken))) (λ x k. ap (λ (qs : List Request). answered_in qs x) taken ∙ any_before x (of_caller c first) (of_caller c o.taken) k) os h in
    record {
      taken = first ++ o.taken;
      taken_are = o.taken_are ∙ (ap (λ (qs : List Request). qs ++ o.taken) (spell_taken kinds callers d s p) ∙ append_assoc d.taken first o.taken);
      since = t.given ++ o.since;
      told_are = o.told_are ∙ (ap (λ (os : List Outcome). os ++ o.since) t.given_are ∙ append_assoc (at_place c d.told) t.given o.since);
      counts = λ r own_is few.
          let all = many_append r first o.taken in
          let here : answers r (t.given ++ caller_outcomes c s.rest.unplaced) + many r s.rest.in_hand ≡ many r first
          = subst (λ (n : ℕ). answers r ((spell_told kinds callers d s p n).given ++ caller_outcomes n s.rest.unplaced) + many r s.rest.in_hand ≡ many r first) own_is (spell_counts kinds callers d s p r (omega (arith, all, few))) in
          let there = o.counts r own_is (omega (arith, all, few)) in
          let hand = many_append r s.rest.in_hand (in_hand_over ss) in
          let whole : answers r ((t.given ++ o.since) ++ caller_outcomes c (unplaced_over (s ∷ ss))) ≡ (answers r t.given + answers r o.since) + (answers r (caller_outcomes c s.rest.unplaced) + answers r (caller_outcomes c (unplaced_over ss)))
          = answers_both r (t.given ++ o.since) (caller_outcomes c (unplaced_over (s ∷ ss)))
          ∙ (ap (λ (n : ℕ). n + answers r (caller_outcomes c (unplaced_over (s ∷ ss)))) (answers_both r t.given o.since)
          ∙ ap (λ (n : ℕ). (answers r t.given + answers r o.since) + n) (ap (answers r) unplaced ∙ answers_both r (caller_outcomes c s.rest.unplaced) (caller_outcomes c (unplaced_over ss)))) in
          let one = answers_both r t.given (caller_outcomes c s.rest.unplaced) in
          let other = answers_both r o.since (caller_outcomes c (unplaced_over ss)) in
          omega (arith, all, here, there, hand, whole, one, other);
      own =
          all_both (answered_in (of_caller c (first ++ o.taken))) (t.given ++ o.since) (caller_outcomes c (unplaced_over (s ∷ ss)))
          (all_both (answered_in (of_caller c (first ++ o.taken))) t.given o.since (wide t.given mine.0) (wider o.since others.0))
          (ap (list_all (answered_in (of_caller c (first ++ o.taken)))) unplaced
          ∙ all_both (answered_in (of_caller c (first ++ o.taken))) (caller_outcomes c s.rest.unplaced) (caller_outcomes c (unplaced_over ss)) (wide (caller_outcomes c s.rest.unplaced) mine.1) (wider (caller_outcomes c (unplaced_over ss)) others.1));
    }
  where
    all_both : (test : Outcome → Bool) (os ps : List Outcome) → list_all test os ≡ true → list_all test ps ≡ true → list_all test (os ++ ps) ≡ true
    all_both test os ps h k = list_all-append test os ps ∙ and_from (list_all test os) (list_all test ps) h k

    all_parts : (test : Outcome → Bool) (os ps : List Outcome) → list_all test (os ++ ps) ≡ true → (list_all test os ≡ true) × (list_all test ps ≡ true)
    all_parts test os ps h = and_parts (list_all test os) (list_all test ps) (sym (list_all-append test os ps) ∙ h)

-- what the listener of a kind was announced
record AnnouncedIn (d e : EndView) (ss : List Spell) (i : ℕ) (k : UrcKind) : Type 0 where
  lines : List Urc
  announced_are : at_place i e.announced ≡ at_place i d.announced ++ lines
  over_all : AnnouncedOver k ss lines

announced : (kinds : List UrcKind) (callers : ℕ) (d e : EndView) (ss : List Spell) → Follow kinds callers d ss e → (i : ℕ) (k : UrcKind) → get_elem? kinds i ≡ some k → AnnouncedIn d e ss i k
announced kinds callers d e [] follow i k at = record {
  lines = [];
  announced_are = ap (λ (v : EndView). at_place i v.announced) follow ∙ sym (append-nil (at_place i d.announced));
  over_all = AnnouncedOver.over_none;
}
announced kinds callers d e (s ∷ ss) follow i k at =
    let h = spell_announced kinds callers d s follow.0 i k at in
    let o = announced kinds callers s.rest.desk e ss follow.1 i k at in
    record {
      lines = h.here ++ o.lines;
      announced_are = o.announced_are ∙ (ap (λ (us : List Urc). us ++ o.lines) h.announced_are ∙ append_assoc (at_place i d.announced) h.here o.lines);
      over_all = AnnouncedOver.over_one s ss h.here o.lines h.lines_are o.over_all;
    }

-- ## Each session

each_first : {A : Type 0} (P : A → Type 0) (x : A) (xs : List A) → P x → Each (λ _ a. P a) xs → Each (λ _ a. P a) (x ∷ xs)
each_first P x xs p ps zero a e = subst P (some-injective x a e) p
each_first P x xs p ps (suc i) a e = ps i a e

each_none : {A : Type 0} (P : A → Type 0) → Each (λ _ a. P a) []
each_none P i a e = absurd (some-ne-none a (sym e))

-- a caller submitted what was taken of it, and then what was left
abbrev AreSubmitted : List Request → List Request → List CallerView → Type 0
AreSubmitted taken left callers = Each (λ i c. c.submitted ≡ of_caller c.place.number taken ++ of_caller c.place.number left) callers

spell_headline : (kinds : List UrcKind) (callers : ℕ) (d : EndView) (s : Spell) (p : IsSpell kinds callers d s) (more left : List Request) (cs : List CallerView)
    → AreSubmitted ((d.taken ++ taken_of kinds callers d s p) ++ more) left cs → SpellHeadline cs s
spell_headline kinds callers d s p more left cs submitted = record {
  leaves = λ newer older joins n. record {
    is_prefix = leaves_once (driving s.start) older (lawful_part (driving s.start) newer older (subst (Lawful (driving s.start)) joins (laws_of (fits_in p.grown).history).lawful)) n;
    order = λ i c at.
        let own = λ (q : Request). q.caller == c.place.number in
        let later = (facts kinds callers d s p).more in
        order_of c.place.number c.submitted (of_caller c.place.number d.taken) ((of_caller c.place.number later ++ of_caller c.place.number more) ++ of_caller c.place.number left) s.start s.session s.past (fits_in p.grown)
        (submitted i c at ∙ parted own d.taken (taken_requests s.past) later more left) newer older joins n;
  };
  none_after_close = while_open s.start s.past (laws_of (fits_in p.grown).history).lawful;
  answers = answers_own s.start s.session s.past (fits_in p.grown);
  hears = hears_each s.start s.session s.past (fits_in p.grown);
}
  where
    parted : (own : Request → Bool) (a b c m l : List Request) → filter own ((a ++ (b ++ c)) ++ m) ++ filter own l ≡ filter own a ++ (filter own b ++ ((filter own c ++ filter own m) ++ filter own l))
    parted own a b c m l =
        ap (λ (qs : List Request). qs ++ filter own l) (filter-append own (a ++ (b ++ c)) m ∙ ap (λ (qs : List Request). qs ++ filter own m) (filter-append own a (b ++ c) ∙ ap (λ (qs : List Request). filter own a ++ qs) (filter-append own b c)))
        ∙ (append_assoc (filter own a ++ (filter own b ++ filter own c)) (filter own m) (filter own l)
        ∙ (append_assoc (filter own a) (filter own b ++ filter own c) (filter own m ++ filter own l)
        ∙ ap (λ (qs : List Request). filter own a ++ qs)
        (append_assoc (filter own b) (filter own c) (filter own m ++ filter own l)
        ∙ ap (λ (qs : List Request). filter own b ++ qs) (sym (append_assoc (filter own c) (filter own m) (filter own l))))))

spell_headlines : (kinds : List UrcKind) (callers : ℕ) (d e : EndView) (ss : List Spell) → Follow kinds callers d ss e → (left : List Request) (cs : List CallerView) → AreSubmitted e.taken left cs → Each (λ _ s. SpellHeadline cs s) ss
spell_headlines kinds callers d e [] follow left cs submitted = each_none (SpellHeadline cs)
spell_headlines kinds callers d e (s ∷ ss) follow left cs submitted =
    let o = over kinds callers s.rest.desk e ss follow.1 0 in
    let whole : e.taken ≡ (d.taken ++ taken_of kinds callers d s follow.0) ++ o.taken = o.taken_are ∙ ap (λ (qs : List Request). qs ++ o.taken) (spell_taken kinds callers d s follow.0) in
    each_first (SpellHeadline cs) s ss (spell_headline kinds callers d s follow.0 o.taken left cs (subst (λ (qs : List Request). AreSubmitted qs left cs) whole submitted))
    (spell_headlines kinds callers s.rest.desk e ss follow.1 left cs submitted)

-- ## The headline of a desk

submitted_all : (run : DeskRun) → IsDeskSettled run → AreSubmitted run.last.taken run.settlement.left run.callers
submitted_all run s i c at = sym ((s.books.callers i c at).order) ∙ ap (λ (qs : List Request). of_caller c.place.number qs ++ of_caller c.place.number run.settlement.left) s.taken

announces_all : (run : DeskRun) → IsDeskSettled run → Each (λ i l. AnnouncedOver l.subscription.kind run.spells (l.heard ++ slice_index_or run.settlement.unheard i [])) run.listeners
announces_all run s i l at =
    let subscription = s.subscribed i l.subscription (subscription_at run.listeners i l at) in
    let o = announced run.driver.desk.kinds (length run.driver.desk.rings) run.first run.last run.spells s.follow l.subscription.place l.subscription.kind subscription.0 in
    let same : l.heard ++ slice_index_or run.settlement.unheard i [] ≡ o.lines =
    (s.books.listeners i l at).lines
    ∙ (ap (λ (us : List (List Urc)). slice_index_or us l.subscription.place []) s.announced
    ∙ (o.announced_are ∙ ap (λ (us : List Urc). us ++ o.lines) (s.none_announced l.subscription.place))) in
    subst (AnnouncedOver l.subscription.kind run.spells) (sym same) o.over_all

holds_all : (run : DeskRun) → IsDeskSettled run → Each (HoldsOver run) run.callers
holds_all run s i c at =
    let n = c.place.number in
    let own = λ (q : Request). q.caller == n in
    let book = s.books.callers i c at in
    let o = over run.driver.desk.kinds (length run.driver.desk.rings) run.first run.last run.spells s.follow n in
    let taken : run.last.taken ≡ o.taken = o.taken_are ∙ ap (λ (qs : List Request). qs ++ o.taken) s.none_taken in
    let whole : c.submitted ≡ of_caller n o.taken ++ of_caller n run.settlement.left = submitted_all run s i c at ∙ ap (λ (qs : List Request). of_caller n qs ++ of_caller n run.settlement.left) taken in
    let together : c.submitted ≡ of_caller n (o.taken ++ run.settlement.left) = whole ∙ sym (filter-append own o.taken run.settlement.left) in
    let held : c.got ++ slice_index_or run.settlement.untaken i [] ≡ o.since =
    book.outcomes ∙ (ap (λ (os : List (List Outcome)). slice_index_or os n []) s.told ∙ (o.told_are ∙ ap (λ (os : List Outcome). os ++ o.since) (s.none_told n))) in
    let outcomes_are : outcomes_over run i c ≡ o.since ++ caller_outcomes n (unplaced_over run.spells)
    = ap (λ (os : List Outcome). os ++ caller_outcomes n (unplaced_over run.spells)) held in
    record {
      each = λ r in_it.
          let mine : r.caller ≡ n = All-contains (λ q. q.caller ≡ n) (of_caller n (o.taken ++ run.settlement.left)) r (of_its_own n (o.taken ++ run.settlement.left)) (subst (λ (qs : List Request). Contains qs r) together in_it) in
          let few : many r c.submitted ≤ 1 = subst (λ (m : ℕ). m ≤ 1) (many_filtered r c.submitted) (uses_once c.submitted (numbered_once c.place.first c.submitted book.numbered) r) in
          let some_one = is_counted c.submitted r in_it in
          let parts : many r c.submitted ≡ many r (of_caller r.caller o.taken) + many r (of_caller r.caller run.settlement.left)
          = ap (many r) (whole ∙ ap (λ (m : ℕ). of_caller m o.taken ++ of_caller m run.settlement.left) (sym mine)) ∙ many_append r (of_caller r.caller o.taken) (of_caller r.caller run.settlement.left) in
          let t = counted_own r o.taken in
          let l = counted_own r run.settlement.left in
          let counts = o.counts r mine (omega (arith, few, parts, t, l)) in
          let told = ap (answers r) outcomes_are in
          let hand = many_filtered r (in_hand_over run.spells) in
          let left = many_filtered r run.settlement.left in
          omega (arith, few, some_one, parts, t, l, counts, told, hand, left);
      own =
          ap (list_all (answered_in c.submitted)) outcomes_are
          ∙ all_wider (answered_in (of_caller n o.taken)) (answered_in c.submitted) (λ x k. ap (λ (qs : List Request). answered_in qs x) whole ∙ any_more x (of_caller n o.taken) (of_caller n run.settlement.left) k)
          (o.since ++ caller_outcomes n (unplaced_over run.spells)) o.own;
    }

-- every settled desk has its headline
pub desk_headline : (run : DeskRun) → IsDeskHeadline run
unfolding IsDeskHeadline
desk_headline run s = record {
  each = spell_headlines run.driver.desk.kinds (length run.driver.desk.rings) run.first run.last run.spells s.follow run.settlement.left run.callers (submitted_all run s);
  announces = announces_all run s;
  holds = holds_all run s;
}
