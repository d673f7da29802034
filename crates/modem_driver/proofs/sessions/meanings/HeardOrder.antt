-- Lines that wait do so in the order in which they were heard.
use Rattle.std.proofs.Common.{ap, sym, ◌∙◌, arith, subst, ⊎_elim}
use Rattle.std.proofs.lemmas.Bool.{eq-eqb, le-leb, lt-leb, leb-true, leb-false}
use Rattle.std.proofs.lemmas.List.{append_assoc, append-nil, length-append, length-map, map-append}
use Rattle.std.proofs.lemmas.List.Elements.{filter-append}
use Rattle.std.specs.Prelude.{◌≡◌, ℕ, ◌+◌, ◌-◌, ◌<◌, ◌≤◌, ◌==◌, nat_le, Bool, true, false, List, [], ◌∷◌, ◌++◌, length, map, filter, refl, if◌then◌else◌}
use Rattle.at_text.specs.declared.unsolicited.UrcKind.{UrcKind}
use Rattle.modem_desk.specs.declared.request.Urc.{Urc}
use Rattle.modem_history.specs.Acts.{Act, Took, Got, Sent, Told, Heard, Tick, Lost, Held, Freed, Given, after}
use Rattle.at_text.specs.Kinds.{kind_place, is_same_kind}
use Rattle.modem_history.specs.Kinds.{of_kind}
use Rattle.modem_history.specs.Sessions.{SessionView, announced_of, heard_as, heard_behind, heards}
use Rattle.modem_history.specs.Turns.{lines_heard}
use Rattle.modem_core.specs.Placing.{Stay, stays_none}
use Rattle.modem_queues.specs.LineQueues.{of_key, place_of}
use Rattle.modem_core.proofs.sessions.steps.LongerHistories.{heard_of, heards_after, is_heard_as, kind_heard}
use Rattle.at_text.proofs.SameKinds.{same_place}
use Rattle.modem_core.proofs.sessions.steps.RemainingItems.{LastGoes, LastStays, stay_count, stay_last, swapped}

-- ## Of a kind

-- the lines of a kind are those of its place
pub kinds_of : (k : UrcKind) (us : List Urc) → of_kind k us ≡ of_key place_of (kind_place k) us
kinds_of k [] = refl
kinds_of k (u ∷ us) =
    ap (λ (c : Bool). if c then u ∷ of_kind k us else of_kind k us) (swapped (kind_place k) (kind_place u.kind))
    ∙ ap (λ (vs : List Urc). if kind_place u.kind == kind_place k then u ∷ vs else vs) (kinds_of k us)

-- how many of a kind wait, by the lines as they were heard
kind_count : (k : UrcKind) (us : List Urc) → length (filter (is_heard_as k) (map heard_as us)) ≡ length (of_kind k us)
kind_count k us = sym (ap length (kind_heard k us)) ∙ length-map (of_kind k us) heard_as

fewer_wait : (k : UrcKind) (us vs : List Urc) → Stay place_of us vs → length (of_kind k vs) ≤ length (of_kind k us)
fewer_wait k us vs stay =
    let few = stay_count place_of (kind_place k) us vs stay in
    let more = ap length (kinds_of k us) in
    let less = ap length (kinds_of k vs) in
    omega arith

-- ## All but the first so many

-- behind the same number of each kind the same lines were heard
pub behind_same : (n m : UrcKind → ℕ) (past : List Act) → ((k : UrcKind) → n k ≡ m k) → heard_behind n past ≡ heard_behind m past
behind_same n m [] e = refl
behind_same n m (Heard k d line ∷ past) e =
    ap (λ (x : ℕ). if nat_le x (length (heards k past)) then heard_behind n past ++ Heard k d line ∷ [] else heard_behind n past) (e k)
    ∙ ap (λ (xs : List Act). if nat_le (m k) (length (heards k past)) then xs ++ Heard k d line ∷ [] else xs) (behind_same n m past e)
behind_same n m (Took r ∷ past) e = behind_same n m past e
behind_same n m (Got f ∷ past) e = behind_same n m past e
behind_same n m (Sent f ∷ past) e = behind_same n m past e
behind_same n m (Told o ∷ past) e = behind_same n m past e
behind_same n m (Tick ∷ past) e = behind_same n m past e
behind_same n m (Lost ∷ past) e = behind_same n m past e
behind_same n m (Held d ∷ past) e = behind_same n m past e
behind_same n m (Freed d ∷ past) e = behind_same n m past e
behind_same n m (Given ∷ past) e = behind_same n m past e

-- what is heard later is behind them too
pub behind_after : (n : UrcKind → ℕ) (acts past : List Act) → ((k : UrcKind) → n k ≤ length (heards k past)) → heard_behind n (after past acts) ≡ heard_behind n past ++ lines_heard acts
behind_after n [] past few = sym (append-nil (heard_behind n past))
behind_after n (Heard k d line ∷ acts) past few =
    behind_after n acts (Heard k d line ∷ past) (λ m. by_kind m (is_same_kind m k))
    ∙ (ap (λ (c : Bool). (if c then heard_behind n past ++ Heard k d line ∷ [] else heard_behind n past) ++ lines_heard acts) (le-leb (n k) (length (heards k past)) (few k))
    ∙ append_assoc (heard_behind n past) (Heard k d line ∷ []) (lines_heard acts))
  where
    by_kind : (m : UrcKind) (c : Bool) → n m ≤ length (if c then heards m past ++ Heard k d line ∷ [] else heards m past)
    by_kind m true = let before = few m in let more = length-append (heards m past) (Heard k d line ∷ []) in omega arith
    by_kind m false = few m
behind_after n (Took r ∷ acts) past few = behind_after n acts (Took r ∷ past) few
behind_after n (Got f ∷ acts) past few = behind_after n acts (Got f ∷ past) few
behind_after n (Sent f ∷ acts) past few = behind_after n acts (Sent f ∷ past) few
behind_after n (Told o ∷ acts) past few = behind_after n acts (Told o ∷ past) few
behind_after n (Tick ∷ acts) past few = behind_after n acts (Tick ∷ past) few
behind_after n (Lost ∷ acts) past few = behind_after n acts (Lost ∷ past) few
behind_after n (Held d ∷ acts) past few = behind_after n acts (Held d ∷ past) few
behind_after n (Freed d ∷ acts) past few = behind_after n acts (Freed d ∷ past) few
behind_after n (Given ∷ acts) past few = behind_after n acts (Given ∷ past) few

-- how many of a kind are behind
behind_count : (n : UrcKind → ℕ) (k : UrcKind) (past : List Act) → length (filter (is_heard_as k) (heard_behind n past)) ≡ length (heards k past) - n k
behind_count n k [] = omega arith
behind_count n k (Heard m d line ∷ past) = by_tests (nat_le (n m) (length (heards m past))) (is_same_kind k m) refl refl (behind_count n k past)
  where
    h : Act
    h = Heard m d line

    xs : List Act
    xs = heard_behind n past

    alone : (c : Bool) → is_same_kind k m ≡ c → length (filter (is_heard_as k) (xs ++ h ∷ [])) ≡ length (filter (is_heard_as k) xs) + length (if c then h ∷ [] else [])
    alone c e =
        ap length (filter-append (is_heard_as k) xs (h ∷ []) ∙ ap (λ (b : Bool). filter (is_heard_as k) xs ++ (if b then h ∷ [] else [])) e)
        ∙ length-append (filter (is_heard_as k) xs) (if c then h ∷ [] else [])

    by_tests : (c s : Bool) → nat_le (n m) (length (heards m past)) ≡ c → is_same_kind k m ≡ s → length (filter (is_heard_as k) xs) ≡ length (heards k past) - n k
        → length (filter (is_heard_as k) (if c then xs ++ h ∷ [] else xs)) ≡ length (if s then heards k past ++ h ∷ [] else heards k past) - n k
    by_tests true true e t rest =
        let few = subst (λ (j : UrcKind). n j ≤ length (heards j past)) (sym (same_place k m t)) (leb-true (n m) (length (heards m past)) e) in
        let one = alone true t in
        let more = length-append (heards k past) (h ∷ []) in
        omega arith
    by_tests true false e t rest = let one = alone false t in omega arith
    by_tests false true e t rest =
        let many = subst (λ (j : UrcKind). length (heards j past) < n j) (sym (same_place k m t)) (leb-false (n m) (length (heards m past)) e) in
        let more = length-append (heards k past) (h ∷ []) in
        omega arith
    by_tests false false e t rest = rest
behind_count n k (Took r ∷ past) = behind_count n k past
behind_count n k (Got f ∷ past) = behind_count n k past
behind_count n k (Sent f ∷ past) = behind_count n k past
behind_count n k (Told o ∷ past) = behind_count n k past
behind_count n k (Tick ∷ past) = behind_count n k past
behind_count n k (Lost ∷ past) = behind_count n k past
behind_count n k (Held d ∷ past) = behind_count n k past
behind_count n k (Freed d ∷ past) = behind_count n k past
behind_count n k (Given ∷ past) = behind_count n k past

-- ## Where some of them go

-- the last of the lines that wait
record Ends (us : List Urc) (hs : List Act) (h : Act) : Type 0 where
  front : List Urc
  last : Urc
  are : us ≡ front ++ last ∷ []
  front_are : map heard_as front ≡ hs
  last_is : heard_as last ≡ h

same_head : (g h : Act) (gs hs : List Act) → g ∷ gs ≡ h ∷ hs → g ≡ h
same_head g h gs hs e = cc

same_tail : (g h : Act) (gs hs : List Act) → g ∷ gs ≡ h ∷ hs → gs ≡ hs
same_tail g h gs hs e = cc

ends : (us : List Urc) (hs : List Act) (h : Act) → map heard_as us ≡ hs ++ h ∷ [] → Ends us hs h
ends [] [] h e = cc
ends [] (g ∷ hs) h e = cc
ends (u ∷ []) [] h e = record { front = []; last = u; are = refl; front_are = refl; last_is = same_head (heard_as u) h [] [] e }
ends (u ∷ v ∷ us) [] h e = let none = same_tail (heard_as u) h (heard_as v ∷ map heard_as us) [] e in cc
ends (u ∷ us) (g ∷ hs) h e =
    let rest = ends us hs h (same_tail (heard_as u) g (map heard_as us) (hs ++ h ∷ []) e) in
    record {
      front = u ∷ rest.front;
      last = rest.last;
      are = ap (λ (vs : List Urc). u ∷ vs) rest.are;
      front_are = ap (λ (xs : List Act). heard_as u ∷ xs) rest.front_are ∙ ap (λ (x : Act). x ∷ hs) (same_head (heard_as u) g (map heard_as us) (hs ++ h ∷ []) e);
      last_is = rest.last_is;
    }

-- the kind of a line that was heard
kind_is : (u : Urc) (k : UrcKind) (d : ℕ) (line : List ℕ) → heard_as u ≡ Heard k d line → u.kind ≡ k
kind_is u k d line e = cc

-- so many of each kind wait
abbrev Counts : (UrcKind → ℕ) → List Act → List Urc → Type 0
Counts m past vs = (k : UrcKind) → length (of_kind k vs) ≡ length (heards k past) - m k

-- one that was heard last is among those that wait, or is the last of its kind that was announced
one_less : (m : UrcKind → ℕ) (k : UrcKind) (d : ℕ) (line : List ℕ) (past : List Act) (vs : List Urc) → Counts m (Heard k d line ∷ past) vs → length (of_kind k vs) ≡ 0 → Counts m past vs
one_less m k d line past vs counts none j = by_kind (is_same_kind j k) refl (counts j)
  where
    by_kind : (c : Bool) → is_same_kind j k ≡ c → length (of_kind j vs) ≡ length (if c then heards j past ++ Heard k d line ∷ [] else heards j past) - m j → length (of_kind j vs) ≡ length (heards j past) - m j
    by_kind true t h =
        let zero_left = subst (λ (i : UrcKind). length (of_kind i vs) ≡ 0) (sym (same_place j k t)) none in
        let more = length-append (heards j past) (Heard k d line ∷ []) in
        omega arith
    by_kind false t h = h

itself : (k : UrcKind) → is_same_kind k k ≡ true
itself k = eq-eqb (kind_place k) (kind_place k) refl

-- where none of its kind waits, so many were announced
none_left : (m : UrcKind → ℕ) (k : UrcKind) (d : ℕ) (line : List ℕ) (past : List Act) (vs : List Urc) → Counts m (Heard k d line ∷ past) vs → length (of_kind k vs) ≡ 0 → nat_le (m k) (length (heards k past)) ≡ false
none_left m k d line past vs counts none =
    let here = counts k ∙ ap (λ (c : Bool). length (if c then heards k past ++ Heard k d line ∷ [] else heards k past) - m k) (itself k) in
    let more = length-append (heards k past) (Heard k d line ∷ []) in
    lt-leb (m k) (length (heards k past)) (omega arith)

-- one more was heard
waits_more : (n m : UrcKind → ℕ) (k : UrcKind) (d : ℕ) (line : List ℕ) (past : List Act) → ((us vs : List Urc) → map heard_as us ≡ heard_behind n past → Stay place_of us vs → Counts m past vs → map heard_as vs ≡ heard_behind m past)
    → (us vs : List Urc) → map heard_as us ≡ heard_behind n (Heard k d line ∷ past) → Stay place_of us vs → Counts m (Heard k d line ∷ past) vs → map heard_as vs ≡ heard_behind m (Heard k d line ∷ past)
waits_more n m k d line past before us vs e stay counts = by_test (nat_le (n k) (length (heards k past))) refl e
  where
    h : Act
    h = Heard k d line

    gone : (fewer : List Urc) → map heard_as fewer ≡ heard_behind n past → Stay place_of fewer vs → length (of_kind k vs) ≡ 0 → map heard_as vs ≡ heard_behind m (h ∷ past)
    gone fewer same left none =
        before fewer vs same left (one_less m k d line past vs counts none)
        ∙ sym (ap (λ (c : Bool). if c then heard_behind m past ++ h ∷ [] else heard_behind m past) (none_left m k d line past vs counts none))

    -- it waits
    by_stays : (x : Ends us (heard_behind n past) h) → LastStays place_of x.front vs x.last → map heard_as vs ≡ heard_behind m (h ∷ past)
    by_stays x l =
        let kind = kind_is x.last k d line x.last_is in
        let one : (j : UrcKind) → of_kind j vs ≡ of_kind j l.front ++ (if is_same_kind j k then x.last ∷ [] else []) = λ j.
        ap (of_kind j) l.are ∙ (filter-append (λ (u : Urc). is_same_kind j u.kind) l.front (x.last ∷ []) ∙ ap (λ (i : UrcKind). of_kind j l.front ++ (if is_same_kind j i then x.last ∷ [] else [])) kind) in
        let fewer : Counts m past l.front = λ j. by_kind j (is_same_kind j k) (ap length (one j)) (counts j) in
        let here = ap length (one k) ∙ ap (λ (c : Bool). length (of_kind k l.front ++ (if c then x.last ∷ [] else []))) (itself k) in
        let all = counts k ∙ ap (λ (c : Bool). length (if c then heards k past ++ h ∷ [] else heards k past) - m k) (itself k) in
        let long = length-append (of_kind k l.front) (x.last ∷ []) in
        let more = length-append (heards k past) (h ∷ []) in
        let enough : nat_le (m k) (length (heards k past)) ≡ true = le-leb (m k) (length (heards k past)) (omega arith) in
        ap (map heard_as) l.are
        ∙ (map-append heard_as l.front (x.last ∷ [])
        ∙ (ap (λ (g : Act). map heard_as l.front ++ g ∷ []) x.last_is
        ∙ (ap (λ (xs : List Act). xs ++ h ∷ []) (before x.front l.front x.front_are l.stay fewer)
        ∙ sym (ap (λ (c : Bool). if c then heard_behind m past ++ h ∷ [] else heard_behind m past) enough))))
      where
        by_kind : (j : UrcKind) (c : Bool) → length (of_kind j vs) ≡ length (of_kind j l.front ++ (if c then x.last ∷ [] else [])) → length (of_kind j vs) ≡ length (if c then heards j past ++ h ∷ [] else heards j past) - m j
            → length (of_kind j l.front) ≡ length (heards j past) - m j
        by_kind j true two all =
            let long = length-append (of_kind j l.front) (x.last ∷ []) in
            let more = length-append (heards j past) (h ∷ []) in
            omega arith
        by_kind j false two all = let long = length-append (of_kind j l.front) [] in omega arith

    -- it was announced, and so were all of its kind before it
    by_goes : (x : Ends us (heard_behind n past) h) → LastGoes place_of x.front vs x.last → map heard_as vs ≡ heard_behind m (h ∷ past)
    by_goes x g =
        let kind = kind_is x.last k d line x.last_is in
        let none = ap length (kinds_of k vs ∙ (ap (λ (i : UrcKind). of_key place_of (kind_place i) vs) (sym kind) ∙ g.none)) in
        gone x.front x.front_are g.stay none

    by_test : (c : Bool) → nat_le (n k) (length (heards k past)) ≡ c → map heard_as us ≡ (if c then heard_behind n past ++ h ∷ [] else heard_behind n past) → map heard_as vs ≡ heard_behind m (h ∷ past)
    by_test true t same =
        let x = ends us (heard_behind n past) h same in
        ⊎_elim (by_stays x) (by_goes x) (stay_last place_of x.front vs x.last (subst (λ (ws : List Urc). Stay place_of ws vs) x.are stay))
    by_test false t same =
        let many = leb-false (n k) (length (heards k past)) t in
        let left = sym (kind_count k us) ∙ (ap (λ (xs : List Act). length (filter (is_heard_as k) xs)) same ∙ behind_count n k past) in
        let few = fewer_wait k us vs stay in
        gone us same stay (omega arith)

-- where some go, of each kind the first, those that still wait are again all behind so many of each kind
pub waits_behind : (n m : UrcKind → ℕ) (past : List Act) (us vs : List Urc) → map heard_as us ≡ heard_behind n past → Stay place_of us vs → Counts m past vs → map heard_as vs ≡ heard_behind m past
waits_behind n m [] [] [] e stays_none counts = refl
waits_behind n m [] [] (v ∷ vs) e stay counts = elim stay [ ]
waits_behind n m [] (u ∷ us) vs e stay counts = cc
waits_behind n m (Heard k d line ∷ past) us vs e stay counts = waits_more n m k d line past (λ fewer less. waits_behind n m past fewer less) us vs e stay counts
waits_behind n m (Took r ∷ past) us vs e stay counts = waits_behind n m past us vs e stay counts
waits_behind n m (Got f ∷ past) us vs e stay counts = waits_behind n m past us vs e stay counts
waits_behind n m (Sent f ∷ past) us vs e stay counts = waits_behind n m past us vs e stay counts
waits_behind n m (Told o ∷ past) us vs e stay counts = waits_behind n m past us vs e stay counts
waits_behind n m (Tick ∷ past) us vs e stay counts = waits_behind n m past us vs e stay counts
waits_behind n m (Lost ∷ past) us vs e stay counts = waits_behind n m past us vs e stay counts
waits_behind n m (Held d ∷ past) us vs e stay counts = waits_behind n m past us vs e stay counts
waits_behind n m (Freed d ∷ past) us vs e stay counts = waits_behind n m past us vs e stay counts
waits_behind n m (Given ∷ past) us vs e stay counts = waits_behind n m past us vs e stay counts

-- what waits is offered to the desk, and some of it goes
pub behind_fewer : (old new : SessionView) (past : List Act) → map heard_as old.unannounced ≡ heard_behind (announced_of old past) past → Stay place_of old.unannounced new.unannounced → map heard_as new.unannounced ≡ heard_behind (announced_of new past) past
behind_fewer old new past same stay = waits_behind (announced_of old past) (announced_of new past) past old.unannounced new.unannounced same stay counts
  where
    counts : Counts (announced_of new past) past new.unannounced
    counts k =
        let all = sym (kind_count k old.unannounced) ∙ (ap (λ (xs : List Act). length (filter (is_heard_as k) xs)) same ∙ behind_count (announced_of old past) k past) in
        let few = fewer_wait k old.unannounced new.unannounced stay in
        omega arith

-- what is heard waits behind it
pub behind_more : (old new : SessionView) (past acts : List Act) → map heard_as old.unannounced ≡ heard_behind (announced_of old past) past → map heard_as new.unannounced ≡ map heard_as old.unannounced ++ lines_heard acts
    → map heard_as new.unannounced ≡ heard_behind (announced_of new (after past acts)) (after past acts)
behind_more old new past acts same more =
    more
    ∙ (ap (λ (xs : List Act). xs ++ lines_heard acts) same
    ∙ (sym (behind_after (announced_of old past) acts past (λ k. omega arith)) ∙ behind_same (announced_of old past) (announced_of new (after past acts)) (after past acts) as_many))
  where
    as_many : (k : UrcKind) → announced_of old past k ≡ announced_of new (after past acts) k
    as_many k =
        let waits = kind_count k new.unannounced in
        let waited = kind_count k old.unannounced in
        let both = ap (λ (xs : List Act). length (filter (is_heard_as k) xs)) more ∙ (ap length (filter-append (is_heard_as k) (map heard_as old.unannounced) (lines_heard acts)) ∙ length-append (filter (is_heard_as k) (map heard_as old.unannounced)) (heard_of k acts)) in
        let heard = ap length (heards_after k acts past) ∙ length-append (heards k past) (heard_of k acts) in
        omega arith
