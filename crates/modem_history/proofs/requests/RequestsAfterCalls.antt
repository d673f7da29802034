-- Which requests stay in hand after a call.
use Rattle.std.specs.Prelude.{◌≡◌, ℕ, ◌==◌, ◌&&◌, not, Bool, true, false, List, [], ◌∷◌, ◌++◌, filter, filter_map, refl, if◌then◌else◌, Option, Some, None, is_none, option_map}
use Rattle.std.specs.List.{list_all, cons_option}
use Rattle.std.proofs.Common.{ap, sym, ◌∙◌, subst, append_assoc, eqb-true}
use Rattle.std.proofs.lemmas.Bool.{and_parts, and_from, eq-eqb}
use Rattle.std.proofs.lemmas.List.Elements.{filter-append}
use Rattle.std.proofs.lemmas.List.Folds.{list_all-append}
use Rattle.mux_station.specs.States.{State, is_opened}
use Rattle.modem_desk.specs.declared.request.Ask.{Ask}
use Rattle.modem_desk.specs.declared.request.Ask.TheVariants.{OpenChannel, CloseChannel, Command, Probe, Stop}
use Rattle.modem_desk.specs.declared.request.Request.{Request}
use Rattle.modem_desk.specs.declared.request.Outcome.{Outcome}
use Rattle.modem_desk.specs.declared.request.Answer.{Answer}
use Rattle.modem_desk.specs.declared.request.Answer.TheVariants.{Closed}
use Rattle.modem_history.specs.Acts.{Act, Took, Got, Sent, Told, Heard, Tick, Lost, Held, Freed, Given, told, is_for, without}
use Rattle.modem_history.specs.Information.{command_on}
use Rattle.modem_history.specs.Calls.{HistoryView, told_later, later, cause, first_on}
use Rattle.modem_history.specs.Wholes.{commands_for}
use Rattle.modem_history.specs.Requests.{is_apart, are_distinct, commands_on}
use Rattle.modem_history.proofs.requests.RequestsInHand.{outcome_of, all_apart, without_apart, for_itself, all_swap}
use Rattle.modem_history.proofs.outcomes.OutcomesAndLines.{taken_off}
use Rattle.modem_history.proofs.outcomes.OutcomeCounts.{untold}

-- a request that isn't told by the act
abbrev pub stays : HistoryView → (ℕ → State) → Act → Request → Bool
stays v now a q = is_none (later v now a q q.ask)

-- ## An outcome takes its request off

dropped : (b : Bool) (q : Request) (rest : List Request) → b ≡ true → (if not b then q ∷ rest else rest) ≡ rest
dropped true q rest e = refl
dropped false q rest e = cc

-- from between others
pub off_between : (y : Request) (why : Answer) (pre ys : List Request) → all_apart y pre ≡ true → all_apart y ys ≡ true → without (outcome_of y why) (pre ++ y ∷ ys) ≡ pre ++ ys
off_between y why pre ys h k =
    let o = outcome_of y why in
    let here : without o (y ∷ ys) ≡ ys = dropped (is_for y o) y (without o ys) (for_itself y why) ∙ without_apart y why ys k in
    filter-append (λ (r : Request). not (is_for r o)) pre (y ∷ ys)
    ∙ (ap (λ (v : List Request). v ++ without o (y ∷ ys)) (without_apart y why pre h) ∙ ap (λ (v : List Request). pre ++ v) here)

-- each is apart from those around
abbrev apart_of : List Request → Request → Bool
apart_of others y = all_apart y others

apart_more : (y z : Request) (others : List Request) → is_apart y z ≡ true → all_apart z others ≡ true → all_apart z (others ++ y ∷ []) ≡ true
apart_more y z others h k = list_all-append (λ (r : Request). is_apart r z) others (y ∷ []) ∙ and_from (all_apart z others) (is_apart y z && true) k (and_from (is_apart y z) true h refl)

each_apart : (y : Request) (others ys : List Request) → list_all (is_apart y) ys ≡ true → list_all (apart_of others) ys ≡ true → list_all (apart_of (others ++ y ∷ [])) ys ≡ true
each_apart y others [] h k = refl
each_apart y others (z ∷ ys) h k =
    let a = and_parts (is_apart y z) (list_all (is_apart y) ys) h in
    let b = and_parts (all_apart z others) (list_all (apart_of others) ys) k in
    and_from (all_apart z (others ++ y ∷ [])) (list_all (apart_of (others ++ y ∷ [])) ys) (apart_more y z others a.0 b.0) (each_apart y others ys a.1 b.1)

all_both : (y : Request) (ys post : List Request) → all_apart y ys ≡ true → all_apart y post ≡ true → all_apart y (ys ++ post) ≡ true
all_both y ys post h k = list_all-append (λ (r : Request). is_apart r y) ys post ∙ and_from (all_apart y ys) (all_apart y post) h k

-- what is told later takes off just those that are told
pub off_tolds : (v : HistoryView) (now : ℕ → State) (a : Act) (pre ys post : List Request) → are_distinct ys ≡ true → list_all (apart_of pre) ys ≡ true → list_all (apart_of post) ys ≡ true
    → taken_off (filter_map (told_later v now a) ys) (pre ++ (ys ++ post)) ≡ pre ++ (filter (stays v now a) ys ++ post)
off_tolds v now a pre [] post d h k = refl
off_tolds v now a pre (y ∷ ys) post d h k =
    let ds = and_parts (list_all (is_apart y) ys) (are_distinct ys) d in
    let hs = and_parts (all_apart y pre) (list_all (apart_of pre) ys) h in
    let ks = and_parts (all_apart y post) (list_all (apart_of post) ys) k in
    by_later (later v now a y y.ask) hs.0 (all_both y ys post (all_swap y ys ds.0) ks.0)
    (off_tolds v now a (pre ++ y ∷ []) ys post ds.1 (each_apart y pre ys ds.0 hs.1) ks.1) (off_tolds v now a pre ys post ds.1 hs.1 ks.1)
  where
    by_later : (o : Option Answer) → all_apart y pre ≡ true → all_apart y (ys ++ post) ≡ true
        → taken_off (filter_map (told_later v now a) ys) ((pre ++ y ∷ []) ++ (ys ++ post)) ≡ (pre ++ y ∷ []) ++ (filter (stays v now a) ys ++ post)
        → taken_off (filter_map (told_later v now a) ys) (pre ++ (ys ++ post)) ≡ pre ++ (filter (stays v now a) ys ++ post)
        → taken_off (cons_option (option_map (told y) o) (filter_map (told_later v now a) ys)) (pre ++ y ∷ (ys ++ post))
        ≡ pre ++ ((if is_none o then y ∷ filter (stays v now a) ys else filter (stays v now a) ys) ++ post)
    by_later None x z kept left =
        ap (taken_off (filter_map (told_later v now a) ys)) (sym (append_assoc pre (y ∷ []) (ys ++ post)))
        ∙ (kept ∙ append_assoc pre (y ∷ []) (filter (stays v now a) ys ++ post))
    by_later (Some why) x z kept left = ap (taken_off (filter_map (told_later v now a) ys)) (off_between y why pre (ys ++ post) x z) ∙ left

-- ## Commands

-- each test that is passed by all that pass the other keeps these
pub kept_both : (test other : Request → Bool) (qs : List Request) → ((q : Request) → test q ≡ true → other q ≡ true) → filter test (filter other qs) ≡ filter test qs
kept_both test other [] h = refl
kept_both test other (q ∷ qs) h = by_tests (other q) (test q) refl refl (kept_both test other qs h)
  where
    by_tests : (b c : Bool) → other q ≡ b → test q ≡ c → filter test (filter other qs) ≡ filter test qs
        → filter test (if b then q ∷ filter other qs else filter other qs) ≡ (if c then q ∷ filter test qs else filter test qs)
    by_tests true true e g k = ap (λ (x : Bool). if x then q ∷ filter test (filter other qs) else filter test (filter other qs)) g ∙ ap (λ (v : List Request). q ∷ v) k
    by_tests true false e g k = ap (λ (x : Bool). if x then q ∷ filter test (filter other qs) else filter test (filter other qs)) g ∙ k
    by_tests false false e g k = k
    by_tests false true e g k = absurd (let x : false ≡ true = sym e ∙ h q g in cc)

-- and none is kept where all that pass the one fail the other
pub kept_none : (test other : Request → Bool) (qs : List Request) → ((q : Request) → test q ≡ true → other q ≡ false) → filter test (filter other qs) ≡ []
kept_none test other [] h = refl
kept_none test other (q ∷ qs) h = by_tests (other q) (test q) refl refl (kept_none test other qs h)
  where
    by_tests : (b c : Bool) → other q ≡ b → test q ≡ c → filter test (filter other qs) ≡ [] → filter test (if b then q ∷ filter other qs else filter other qs) ≡ []
    by_tests true true e g k = absurd (let x : true ≡ false = sym e ∙ h q g in cc)
    by_tests true false e g k = ap (λ (x : Bool). if x then q ∷ filter test (filter other qs) else filter test (filter other qs)) g ∙ k
    by_tests false c e g k = k

-- where none passes a test, none does of those that another test leaves
pub none_kept : (test other : Request → Bool) (qs : List Request) → filter test qs ≡ [] → filter test (filter other qs) ≡ []
none_kept test other [] h = refl
none_kept test other (q ∷ qs) h = by_tests (other q) (test q) refl h (none_kept test other qs)
  where
    by_tests : (b c : Bool) → test q ≡ c → (if c then q ∷ filter test qs else filter test qs) ≡ [] → (filter test qs ≡ [] → filter test (filter other qs) ≡ [])
        → filter test (if b then q ∷ filter other qs else filter other qs) ≡ []
    by_tests b true g k more = cc
    by_tests true false g k more = ap (λ (x : Bool). if x then q ∷ filter test (filter other qs) else filter test (filter other qs)) g ∙ more k
    by_tests false false g k more = more k

-- a command whose connection isn't open is told
told_shut : (v : HistoryView) (now : ℕ → State) (a : Act) (d : ℕ) → is_opened (now d) ≡ false → (q : Request) (ask : Ask) → command_on d ask ≡ true → is_none (later v now a q ask) ≡ false
told_shut v now a d h q (Command e line) c =
    let same : e.number ≡ d = eqb-true e.number d c in
    let shut : is_opened (now e.number) ≡ false = ap (λ (n : ℕ). is_opened (now n)) same ∙ h in
    by_open (is_opened (now e.number)) (cause v now a Closed) shut
  where
    by_open : (b : Bool) (why : Answer) → b ≡ false → is_none (if b then None else Some why) ≡ false
    by_open false why g = refl
    by_open true why g = cc
told_shut v now a d h q (OpenChannel e) c = cc
told_shut v now a d h q (CloseChannel e) c = cc
told_shut v now a d h q (Probe octets) c = cc
told_shut v now a d h q Stop c = cc

-- while d is open its commands stay
pub commands_stay : (v : HistoryView) (now : ℕ → State) (a : Act) (d : ℕ) (qs : List Request) → is_opened (now d) ≡ true → commands_for d (filter (stays v now a) qs) ≡ commands_for d qs
commands_stay v now a d qs h = kept_both (commands_on d) (stays v now a) qs (λ q c. ap is_none (untold v now a d h q q.ask c))

-- where it is shut none does
pub commands_go : (v : HistoryView) (now : ℕ → State) (a : Act) (d : ℕ) (qs : List Request) → is_opened (now d) ≡ false → commands_for d (filter (stays v now a) qs) ≡ []
commands_go v now a d qs h = kept_none (commands_on d) (stays v now a) qs (λ q c. told_shut v now a d h q q.ask c)

-- ## No number twice

-- the first of these passes a test that all of these pass
pub first_passes : (test : Request → Bool) (d : ℕ) (qs : List Request) (r : Request) → list_all test qs ≡ true → first_on d qs ≡ Some r → test r ≡ true
first_passes test d [] r h e = cc
first_passes test d (x ∷ xs) r h e =
    let hs = and_parts (test x) (list_all test xs) h in
    by_first (command_on d x.ask) hs.0 (first_passes test d xs r hs.1) e
  where
    by_first : (b : Bool) → test x ≡ true → (first_on d xs ≡ Some r → test r ≡ true) → (if b then Some x else first_on d xs) ≡ Some r → test r ≡ true
    by_first true g more k = let same : x ≡ r = cc in subst (λ (v : Request). test v ≡ true) same g
    by_first false g more k = more k

-- what holds of all requests holds of those that a test leaves
pub all_filter : (test other : Request → Bool) (qs : List Request) → list_all test qs ≡ true → list_all test (filter other qs) ≡ true
all_filter test other [] h = refl
all_filter test other (q ∷ qs) h =
    let hs = and_parts (test q) (list_all test qs) h in
    by_test (other q) (all_filter test other qs hs.1) hs.0
  where
    by_test : (b : Bool) → list_all test (filter other qs) ≡ true → test q ≡ true → list_all test (if b then q ∷ filter other qs else filter other qs) ≡ true
    by_test true k g = and_from (test q) (list_all test (filter other qs)) g k
    by_test false k g = k

-- ## Lists without a number twice

-- distinct requests are distinct where some are left out
pub distinct_filter : (test : Request → Bool) (qs : List Request) → are_distinct qs ≡ true → are_distinct (filter test qs) ≡ true
distinct_filter test [] h = refl
distinct_filter test (q ∷ qs) h =
    let hs = and_parts (list_all (is_apart q) qs) (are_distinct qs) h in
    by_test (test q) (distinct_filter test qs hs.1) (all_filter (is_apart q) test qs hs.0)
  where
    by_test : (b : Bool) → are_distinct (filter test qs) ≡ true → list_all (is_apart q) (filter test qs) ≡ true → are_distinct (if b then q ∷ filter test qs else filter test qs) ≡ true
    by_test true k g = and_from (list_all (is_apart q) (filter test qs)) (are_distinct (filter test qs)) g k
    by_test false k g = k

-- of distinct requests the first ones are distinct, and each is apart from those behind
pub distinct_front : (xs ys : List Request) → are_distinct (xs ++ ys) ≡ true → (are_distinct xs ≡ true) × (list_all (apart_of ys) xs ≡ true)
distinct_front [] ys h = (refl, refl)
distinct_front (x ∷ xs) ys h =
    let hs = and_parts (list_all (is_apart x) (xs ++ ys)) (are_distinct (xs ++ ys)) h in
    let both = and_parts (list_all (is_apart x) xs) (list_all (is_apart x) ys) (sym (list_all-append (is_apart x) xs ys) ∙ hs.0) in
    let more = distinct_front xs ys hs.1 in
    (and_from (list_all (is_apart x) xs) (are_distinct xs) both.0 more.0, and_from (all_apart x ys) (list_all (apart_of ys) xs) (all_swap x ys both.1) more.1)

-- all but the last are distinct, and apart from the last
pub distinct_ends : (xs : List Request) (q : Request) → are_distinct (xs ++ q ∷ []) ≡ true → (are_distinct xs ≡ true) × (all_apart q xs ≡ true)
distinct_ends [] q h = (refl, refl)
distinct_ends (x ∷ xs) q h =
    let hs = and_parts (list_all (is_apart x) (xs ++ q ∷ [])) (are_distinct (xs ++ q ∷ [])) h in
    let both = and_parts (list_all (is_apart x) xs) (is_apart x q && true) (sym (list_all-append (is_apart x) xs (q ∷ [])) ∙ hs.0) in
    let one = and_parts (is_apart x q) true both.1 in
    let more = distinct_ends xs q hs.1 in
    (and_from (list_all (is_apart x) xs) (are_distinct xs) both.0 more.0, and_from (is_apart x q) (all_apart q xs) one.0 more.1)

-- each is apart from none
pub apart_none : (qs : List Request) → list_all (apart_of []) qs ≡ true
apart_none [] = refl
apart_none (q ∷ qs) = apart_none qs

-- the first command on another connection is apart from those on d
pub apart_other : (d e : ℕ) (qs : List Request) (r : Request) → (d == e) ≡ false → are_distinct qs ≡ true → first_on e qs ≡ Some r → all_apart r (commands_for d qs) ≡ true
apart_other d e [] r n h k = cc
apart_other d e (x ∷ xs) r n h k =
    let hs = and_parts (list_all (is_apart x) xs) (are_distinct xs) h in
    by_tests (command_on e x.ask) (command_on d x.ask) refl refl hs.0 k (apart_other d e xs r n hs.1)
  where
    on_one : (ask : Ask) → command_on d ask ≡ true → command_on e ask ≡ true → ⊥
    on_one (Command c line) g m =
        let same : d ≡ e = sym (eqb-true c.number d g) ∙ eqb-true c.number e m in
        let equal : (d == e) ≡ true = ap (λ (x : ℕ). d == x) (sym same) ∙ eq-eqb d d refl in
        let off : true ≡ false = sym equal ∙ n in
        cc
    on_one (OpenChannel c) g m = cc
    on_one (CloseChannel c) g m = cc
    on_one (Probe octets) g m = cc
    on_one Stop g m = cc

    by_tests : (b c : Bool) → command_on e x.ask ≡ b → command_on d x.ask ≡ c → list_all (is_apart x) xs ≡ true → (if b then Some x else first_on e xs) ≡ Some r
        → (first_on e xs ≡ Some r → all_apart r (commands_for d xs) ≡ true) → all_apart r (if c then x ∷ commands_for d xs else commands_for d xs) ≡ true
    by_tests true true g m apart z more = absurd (on_one x.ask m g)
    by_tests true false g m apart z more =
        let same : x ≡ r = cc in
        subst (λ (v : Request). all_apart v (commands_for d xs) ≡ true) same (all_swap x (commands_for d xs) (all_filter (is_apart x) (commands_on d) xs apart))
    by_tests false true g m apart z more =
        and_from (is_apart x r) (all_apart r (commands_for d xs)) (first_passes (is_apart x) e xs r apart z) (more z)
    by_tests false false g m apart z more = more z

-- the first command on d is the first of the commands on d
abbrev pub head_of : List Request → Option Request
head_of [] = None
head_of (q ∷ qs) = Some q

-- so it is: the first on d is the head of those on d
pub first_head : (d : ℕ) (qs : List Request) → first_on d qs ≡ head_of (commands_for d qs)
first_head d [] = refl
first_head d (x ∷ xs) = by_test (command_on d x.ask) (first_head d xs)
  where
    by_test : (b : Bool) → first_on d xs ≡ head_of (commands_for d xs) → (if b then Some x else first_on d xs) ≡ head_of (if b then x ∷ commands_for d xs else commands_for d xs)
    by_test true h = refl
    by_test false h = h

-- tests come in any order
pub filter_swap : (p q : Request → Bool) (xs : List Request) → filter p (filter q xs) ≡ filter q (filter p xs)
filter_swap p q [] = refl
filter_swap p q (x ∷ xs) = by_tests (p x) (q x) refl refl (filter_swap p q xs)
  where
    by_tests : (b c : Bool) → p x ≡ b → q x ≡ c → filter p (filter q xs) ≡ filter q (filter p xs)
        → filter p (if c then x ∷ filter q xs else filter q xs) ≡ filter q (if b then x ∷ filter p xs else filter p xs)
    by_tests true true g m k =
        ap (λ (y : Bool). if y then x ∷ filter p (filter q xs) else filter p (filter q xs)) g
        ∙ (ap (λ (v : List Request). x ∷ v) k ∙ sym (ap (λ (y : Bool). if y then x ∷ filter q (filter p xs) else filter q (filter p xs)) m))
    by_tests true false g m k = k ∙ sym (ap (λ (y : Bool). if y then x ∷ filter q (filter p xs) else filter q (filter p xs)) m)
    by_tests false true g m k = ap (λ (y : Bool). if y then x ∷ filter p (filter q xs) else filter p (filter q xs)) g ∙ k
    by_tests false false g m k = k

-- an outcome takes its request off before other acts or behind them alike
pub off_swap : (acts : List Act) (o : Outcome) (hand : List Request) → taken_off acts (without o hand) ≡ without o (taken_off acts hand)
off_swap [] o hand = refl
off_swap (Told p ∷ acts) o hand =
    ap (taken_off acts) (filter_swap (λ (r : Request). not (is_for r p)) (λ (r : Request). not (is_for r o)) hand) ∙ off_swap acts o (without p hand)
off_swap (Took q ∷ acts) o hand = off_swap acts o hand
off_swap (Got f ∷ acts) o hand = off_swap acts o hand
off_swap (Sent f ∷ acts) o hand = off_swap acts o hand
off_swap (Heard k d line ∷ acts) o hand = off_swap acts o hand
off_swap (Tick ∷ acts) o hand = off_swap acts o hand
off_swap (Lost ∷ acts) o hand = off_swap acts o hand
off_swap (Held d ∷ acts) o hand = off_swap acts o hand
off_swap (Freed d ∷ acts) o hand = off_swap acts o hand
off_swap (Given ∷ acts) o hand = off_swap acts o hand
