-- The first of what waits is offered to its ring, or stays.
use Rattle.std.proofs.Common.{ap, sym, ◌∙◌, subst, arith, ⊎_elim}
use Rattle.std.proofs.lemmas.Bool.{and_from, and_parts, eqb-true, eqb-false, lt-ltb}
use Rattle.std.proofs.lemmas.List.{append_assoc, append-nil, length-append, get_or-set_same, get_or-set_other}
use Rattle.std.proofs.Math.Seq.{drop-append_seam, take-append_seam}
use Rattle.std.proofs.lemmas.List.Elements.{filter-append}
use Rattle.std.proofs.lemmas.List.Folds.{list_all-append}
use Rattle.std.specs.Prelude.{◌≡◌, ◌≢◌, ℕ, zero, suc, replicate, ◌+◌, ◌≤◌, ◌<◌, ◌==◌, ◌||◌, ◌⊎◌, nat_lt, Bool, true, false, List, [], ◌∷◌, ◌++◌, length, take, drop, refl, slice_index_or, slice_set}
use Rattle.std.specs.List.{list_all}
use Rattle.modem_history.specs.Sessions.{at_place}
use Rattle.modem_history.specs.EveryTurn.{count_at}
use Rattle.modem_history.specs.Turns.{amount, counted}
use Rattle.modem_core.specs.Placing.{Rings, Gave, Stay, Placed, Placing, OneFewer, OffersFirst, one_if}
use Rattle.modem_queues.specs.LineQueues.{of_key}
use Rattle.modem_core.proofs.sessions.steps.Amounts.{amount_more}
use Rattle.modem_core.proofs.sessions.steps.RemainingItems.{own_first, other_of, stay_all, stay_without}

false_true : false ≡ true → ⊥
false_true h = cc

not_both : {c : Bool} → c ≡ false → c ≡ true → ⊥
not_both e f = false_true (sym e ∙ f)

-- of two, it doesn't matter which comes first
pub either : (c d : Bool) → (c || d) ≡ (d || c)
either true true = refl
either true false = refl
either false true = refl
either false false = refl

-- at first no key is held up
pub none_held : (m n : ℕ) → slice_index_or (replicate m false) n false ≡ false
none_held zero n = refl
none_held (suc m) zero = refl
none_held (suc m) (suc n) = none_held m n

-- ## Those of a key

-- the first that is offered is the first of its key, where none of it stays
first_of : {X : Type 0} (key : X → ℕ) (n : ℕ) (stay rest : List X) (x : X) → (key x == n) ≡ true → of_key key n stay ≡ [] → of_key key n (stay ++ x ∷ rest) ≡ x ∷ of_key key n (stay ++ rest)
first_of {X} key n stay rest x e none =
    filter-append (λ y. key y == n) stay (x ∷ rest)
    ∙ (ap (λ (ys : List X). ys ++ of_key key n (x ∷ rest)) none
    ∙ (own_first key n x rest e
    ∙ ap (λ (ys : List X). x ∷ ys) (sym (filter-append (λ y. key y == n) stay rest ∙ ap (λ (ys : List X). ys ++ of_key key n rest) none))))

all_without : {X : Type 0} (p : X → Bool) (stay rest : List X) (x : X) → list_all p (stay ++ x ∷ rest) ≡ true → list_all p (stay ++ rest) ≡ true
all_without p stay rest x h =
    let parts = and_parts (list_all p stay) (list_all p (x ∷ rest)) (sym (list_all-append p stay (x ∷ rest)) ∙ h) in
    list_all-append p stay rest ∙ and_from (list_all p stay) (list_all p rest) parts.0 (and_parts (p x) (list_all p rest) parts.1).1

-- ## What a ring was given

-- the rings of a key had this one more, and every other stayed
pub record GivesOne {X : Type 0} (at : ℕ → ℕ → Type 0) (n : ℕ) (x : X) (now later : Rings X) : Type 0 where
  pub here : (i : ℕ) → at n i → at_place i later.given ≡ at_place i now.given ++ x ∷ []
  pub others : (i : ℕ) → ¬ at n i → at_place i later.given ≡ at_place i now.given
  pub free_others : (i : ℕ) → ¬ at n i → slice_index_or later.free i 0 ≡ slice_index_or now.free i 0
  pub back_same : later.back ≡ now.back
  pub one : ℕ
  pub is_one : at n one

-- two keys have no ring together, and it is known whether a ring is of a key
pub record AreApart (at : ℕ → ℕ → Type 0) : Type 0 where
  pub same : (n m i : ℕ) → at n i → at m i → n ≡ m
  pub tells : (n i : ℕ) → at n i ⊎ (¬ at n i)

longer : {X : Type 0} (at : ℕ → ℕ → Type 0) (n : ℕ) (x : X) (now later : Rings X) → AreApart at → GivesOne at n x now later → (k : ℕ) → length (at_place k now.given) ≤ length (at_place k later.given)
longer at n x now later a g k = ⊎_elim (λ (i : at n k). by_here i) (λ (o : ¬ at n k). let same = ap length (g.others k o) in omega arith) (a.tells n k)
  where
    by_here : at n k → length (at_place k now.given) ≤ length (at_place k later.given)
    by_here i = let more = ap length (g.here k i) ∙ length-append (at_place k now.given) (x ∷ []) in omega arith

more_in_all : {X : Type 0} (at : ℕ → ℕ → Type 0) (n : ℕ) (x : X) (now later : Rings X) → AreApart at → GivesOne at n x now later → amount now.given + 1 ≤ amount later.given
more_in_all at n x now later a g =
    amount_more g.one now.given later.given (longer at n x now later a g) (let more = ap length (g.here g.one g.is_one) ∙ length-append (at_place g.one now.given) (x ∷ []) in omega arith)

-- ## The three ways

-- it was given
gave_more : {X : Type 0} (key : X → ℕ) (at : ℕ → ℕ → Type 0) (before now later : Rings X) (waited stay rest : List X) (x : X) (n i : ℕ) → AreApart at → GivesOne at (key x) x now later
    → ((key x == n) ≡ true → of_key key n stay ≡ []) → at n i → Gave key before.given now.given waited (stay ++ x ∷ rest) n i → Gave key before.given later.given waited (stay ++ rest) n i
gave_more {X} key at before now later waited stay rest x n i apart g none a h = by_test (key x == n) refl
  where
    by_test : (c : Bool) → (key x == n) ≡ c → Gave key before.given later.given waited (stay ++ rest) n i
    by_test true e = record {
      since = h.since ++ x ∷ [];
      given_are = g.here i (subst (λ (m : ℕ). at m i) (sym (eqb-true (key x) n e)) a) ∙ (ap (λ (ys : List X). ys ++ x ∷ []) h.given_are ∙ append_assoc (at_place i before.given) h.since (x ∷ []));
      rest_are = append_assoc h.since (x ∷ []) (of_key key n (stay ++ rest)) ∙ (ap (λ (ys : List X). h.since ++ ys) (sym (first_of key n stay rest x e (none e))) ∙ h.rest_are);
    }
    by_test false e = record {
      since = h.since;
      given_are = g.others i (λ at_x. eqb-false (key x) n e (apart.same (key x) n i at_x a)) ∙ h.given_are;
      rest_are = ap (λ (ys : List X). h.since ++ ys) (sym (other_of key n stay rest x e)) ∙ h.rest_are;
    }

-- then one fewer waits to be offered, and something moved
pub placing_given : {X : Type 0} (key : X → ℕ) (at : ℕ → ℕ → Type 0) (known : ℕ → Type 0) (before now later : Rings X) (held : List Bool) (waited stay rest : List X) (x : X) (moved : Bool)
    → AreApart at → GivesOne at (key x) x now later → known (key x) → slice_index_or held (key x) false ≡ false
    → Placing key at known before now held waited (x ∷ rest) stay moved → Placing key at known before later held waited rest stay true
placing_given {X} key at known before now later held waited stay rest x moved apart g k way p =
    let more = more_in_all at (key x) x now later apart g in
    let grew = p.grows in
    record {
      each = λ n i a. gave_more key at before now later waited stay rest x n i apart g
          (λ e. let same = eqb-true (key x) n e in p.free_way n (subst known same k) (subst (λ (m : ℕ). slice_index_or held m false ≡ false) same way)) a (p.each n i a);
      in_order = stay_without key waited stay rest x (p.free_way (key x) k way) p.in_order;
      elsewhere = λ i o. g.others i (o (key x)) ∙ p.elsewhere i o;
      free_way = p.free_way;
      held_up = p.held_up;
      counts = λ n i a kn. ap (count_at i) g.back_same ∙ p.counts n i a kn;
      full = λ n i a kn h. g.free_others i (λ at_x. not_both (sym (ap (λ (m : ℕ). slice_index_or held m false) (apart.same (key x) n i at_x a)) ∙ way) h) ∙ p.full n i a kn h;
      all = λ q h. all_without q stay rest x (p.all q h);
      fewer =
          let one = length-append stay (x ∷ rest) in
          let other = length-append stay rest in
          let few = p.fewer in
          omega arith;
      grows = omega arith;
      moved_is = sym (lt-ltb (amount before.given) (amount later.given) (omega arith));
    }

-- it was handed back: its rings have no free place that is known of, and count it
pub record FillsUp (at : ℕ → ℕ → Type 0) (n : ℕ) (free freer back backer : List ℕ) : Type 0 where
  pub here : (i : ℕ) → at n i → slice_index_or freer i 0 ≡ 0
  pub others : (i : ℕ) → ¬ at n i → slice_index_or freer i 0 ≡ slice_index_or free i 0
  pub counts : (i : ℕ) → at n i → count_at i backer ≡ counted (count_at i back) 1
  pub count_others : (i : ℕ) → ¬ at n i → count_at i backer ≡ count_at i back

-- none of another key stays with it
stay_others : {X : Type 0} (key : X → ℕ) (n : ℕ) (stay : List X) (x : X) → (key x == n) ≡ false → of_key key n stay ≡ [] → of_key key n (stay ++ x ∷ []) ≡ []
stay_others key n stay x e none = other_of key n stay [] x e ∙ (ap (of_key key n) (append-nil stay) ∙ none)

-- behind the others it still comes before those that wait
gave_same : {X : Type 0} (key : X → ℕ) (before now : List (List X)) (waited stay rest : List X) (x : X) (n i : ℕ) → Gave key before now waited (stay ++ x ∷ rest) n i → Gave key before now waited ((stay ++ x ∷ []) ++ rest) n i
gave_same {X} key before now waited stay rest x n i g = record {
  since = g.since;
  given_are = g.given_are;
  rest_are = ap (λ (ys : List X). g.since ++ of_key key n ys) (append_assoc stay (x ∷ []) rest) ∙ g.rest_are;
}

front_none : {X : Type 0} (xs ys : List X) → xs ++ ys ≡ [] → xs ≡ []
front_none [] ys e = refl
front_none (x ∷ xs) ys e = cc

-- some of its key stay where some stayed, and where it does itself
stay_more : {X : Type 0} (key : X → ℕ) (n : ℕ) (stay : List X) (x : X) → of_key key n stay ≢ [] → of_key key n (stay ++ x ∷ []) ≢ []
stay_more {X} key n stay x some none = some (front_none (of_key key n stay) (of_key key n (x ∷ [])) (sym (filter-append (λ y. key y == n) stay (x ∷ [])) ∙ none))

stay_own : {X : Type 0} (key : X → ℕ) (n : ℕ) (stay : List X) (x : X) → (key x == n) ≡ true → of_key key n (stay ++ x ∷ []) ≢ []
stay_own {X} key n stay x e none =
    let whole : of_key key n stay ++ x ∷ [] ≡ [] = ap (λ (ys : List X). of_key key n stay ++ ys) (sym (own_first key n x [] e)) ∙ (sym (filter-append (λ y. key y == n) stay (x ∷ [])) ∙ none) in
    let long = ap length whole ∙ refl in
    let all = length-append (of_key key n stay) (x ∷ []) in
    omega (arith, long, all)

-- then it stays behind the others, and its key is held up
pub placing_back : {X : Type 0} (key : X → ℕ) (at : ℕ → ℕ → Type 0) (known : ℕ → Type 0) (before now : Rings X) (freer backer : List ℕ) (held : List Bool) (waited stay rest : List X) (x : X) (moved : Bool)
    → AreApart at → FillsUp at (key x) now.free freer now.back backer → key x < length held → slice_index_or held (key x) false ≡ false
    → Placing key at known before now held waited (x ∷ rest) stay moved
    → Placing key at known before (record now { free = freer; back = backer }) (slice_set held (key x) true) waited rest (stay ++ x ∷ []) moved
placing_back {X} key at known before now freer backer held waited stay rest x moved apart dry lt way p = record {
  each = λ n i a. gave_same key before.given now.given waited stay rest x n i (p.each n i a);
  in_order = subst (Stay key waited) (sym (append_assoc stay (x ∷ []) rest)) p.in_order;
  elsewhere = p.elsewhere;
  free_way = λ n kn h. by_test n kn h (key x == n) refl;
  held_up = λ n h. by_key n h (key x == n) refl;
  counts = λ n i a kn. by_count n i a kn (key x == n) refl;
  full = λ n i a kn h. by_full n i a kn h (key x == n) refl;
  all = λ q h. ap (list_all q) (append_assoc stay (x ∷ []) rest) ∙ p.all q h;
  fewer = subst (λ (ys : List X). length ys ≤ length waited) (sym (append_assoc stay (x ∷ []) rest)) p.fewer;
  grows = p.grows;
  moved_is = p.moved_is;
}
  where
    set_same : (n : ℕ) → (key x == n) ≡ true → slice_index_or (slice_set held (key x) true) n false ≡ true
    set_same n e = ap (λ (m : ℕ). slice_index_or (slice_set held (key x) true) m false) (sym (eqb-true (key x) n e)) ∙ get_or-set_same held (key x) true false lt

    set_other : (n : ℕ) → (key x == n) ≡ false → slice_index_or (slice_set held (key x) true) n false ≡ slice_index_or held n false
    set_other n e = get_or-set_other held (key x) n true false (λ same. eqb-false (key x) n e (sym same))

    by_test : (n : ℕ) → known n → slice_index_or (slice_set held (key x) true) n false ≡ false → (c : Bool) → (key x == n) ≡ c → of_key key n (stay ++ x ∷ []) ≡ []
    by_test n kn h true e = absurd (not_both h (set_same n e))
    by_test n kn h false e = stay_others key n stay x e (p.free_way n kn (sym (set_other n e) ∙ h))

    by_key : (n : ℕ) → slice_index_or (slice_set held (key x) true) n false ≡ true → (c : Bool) → (key x == n) ≡ c → of_key key n (stay ++ x ∷ []) ≢ []
    by_key n h true e = stay_own key n stay x e
    by_key n h false e = stay_more key n stay x (p.held_up n (sym (set_other n e) ∙ h))

    by_full : (n i : ℕ) → at n i → known n → slice_index_or (slice_set held (key x) true) n false ≡ true → (c : Bool) → (key x == n) ≡ c → slice_index_or freer i 0 ≡ 0
    by_full n i a kn h true e = dry.here i (subst (λ (m : ℕ). at m i) (sym (eqb-true (key x) n e)) a)
    by_full n i a kn h false e = dry.others i (λ at_x. eqb-false (key x) n e (apart.same (key x) n i at_x a)) ∙ p.full n i a kn (sym (set_other n e) ∙ h)

    by_count : (n i : ℕ) → at n i → known n → (c : Bool) → (key x == n) ≡ c → count_at i backer ≡ counted (count_at i before.back) (one_if (slice_index_or (slice_set held (key x) true) n false))
    by_count n i a kn true e =
        let same = eqb-true (key x) n e in
        let none : slice_index_or held n false ≡ false = ap (λ (m : ℕ). slice_index_or held m false) (sym same) ∙ way in
        dry.counts i (subst (λ (m : ℕ). at m i) (sym same) a)
        ∙ (ap (λ (m : ℕ). counted m 1) (p.counts n i a kn ∙ ap (λ (b : Bool). counted (count_at i before.back) (one_if b)) none)
        ∙ ap (λ (b : Bool). counted (count_at i before.back) (one_if b)) (sym (set_same n e)))
    by_count n i a kn false e =
        dry.count_others i (λ at_x. eqb-false (key x) n e (apart.same (key x) n i at_x a))
        ∙ (p.counts n i a kn ∙ ap (λ (b : Bool). counted (count_at i before.back) (one_if b)) (sym (set_other n e)))

-- it wasn't offered, since its key is held up or unknown
pub placing_passed : {X : Type 0} (key : X → ℕ) (at : ℕ → ℕ → Type 0) (known : ℕ → Type 0) (before now : Rings X) (held : List Bool) (waited stay rest : List X) (x : X) (moved : Bool)
    → (known (key x) → slice_index_or held (key x) false ≡ true)
    → Placing key at known before now held waited (x ∷ rest) stay moved → Placing key at known before now held waited rest (stay ++ x ∷ []) moved
placing_passed {X} key at known before now held waited stay rest x moved way p = record {
  each = λ n i a. gave_same key before.given now.given waited stay rest x n i (p.each n i a);
  in_order = subst (Stay key waited) (sym (append_assoc stay (x ∷ []) rest)) p.in_order;
  elsewhere = p.elsewhere;
  free_way = λ n kn h. by_test n kn h (key x == n) refl;
  held_up = λ n h. stay_more key n stay x (p.held_up n h);
  counts = p.counts;
  full = p.full;
  all = λ q h. ap (list_all q) (append_assoc stay (x ∷ []) rest) ∙ p.all q h;
  fewer = subst (λ (ys : List X). length ys ≤ length waited) (sym (append_assoc stay (x ∷ []) rest)) p.fewer;
  grows = p.grows;
  moved_is = p.moved_is;
}
  where
    by_test : (n : ℕ) → known n → slice_index_or held n false ≡ false → (c : Bool) → (key x == n) ≡ c → of_key key n (stay ++ x ∷ []) ≡ []
    by_test n kn h true e =
        let same = eqb-true (key x) n e in
        absurd (not_both h (ap (λ (m : ℕ). slice_index_or held m false) (sym same) ∙ way (subst known (sym same) kn)))
    by_test n kn h false e = stay_others key n stay x e (p.free_way n kn h)

-- ## From first to last

-- before the first all wait to be offered, and none stays
pub placing_first : {X : Type 0} (key : X → ℕ) (at : ℕ → ℕ → Type 0) (known : ℕ → Type 0) (before : Rings X) (held : List Bool) (waited : List X) → ((n : ℕ) → slice_index_or held n false ≡ false)
    → OneFewer key at known before before held waited waited (length waited) false
placing_first key at known before held waited none = record {
  waits = waited;
  stay = [];
  are = sym (append-nil waited);
  left_are = refl;
  placing = record {
    each = λ n i a. record { since = []; given_are = sym (append-nil (at_place i before.given)); rest_are = refl };
    in_order = stay_all key waited;
    elsewhere = λ i o. refl;
    free_way = λ n kn h. refl;
    held_up = λ n h. absurd (not_both (none n) h);
    counts = λ n i a kn. ap (λ (b : Bool). counted (count_at i before.back) (one_if b)) (sym (none n));
    full = λ n i a kn h. absurd (not_both (none n) h);
    all = λ q h. h;
    fewer = omega arith;
    grows = omega arith;
    moved_is = not_less (amount before.given);
  };
}
  where
    not_less : (n : ℕ) → false ≡ nat_lt n n
    not_less n = grind arith

no_more : {X : Type 0} (xs : List X) → length xs ≡ 0 → xs ≡ []
no_more [] h = refl
no_more (x ∷ xs) h = absurd (omega arith)

-- where none waits to be offered any more, all is placed that may be
pub placed_last : {X : Type 0} (key : X → ℕ) (at : ℕ → ℕ → Type 0) (known : ℕ → Type 0) (before now : Rings X) (held : List Bool) (waited new : List X) (moved : Bool)
    → OneFewer key at known before now held waited new 0 moved → Placed key at known before now waited new moved
placed_last {X} key at known before now held waited new moved o =
    let none = no_more o.waits o.left_are in
    let p = o.placing in
    let are : new ≡ o.stay = o.are ∙ ap (λ (ys : List X). ys ++ o.stay) none in
    let all : o.stay ++ o.waits ≡ new = ap (λ (ys : List X). o.stay ++ ys) none ∙ (append-nil o.stay ∙ sym are) in
    record {
      each = λ n i a. subst (λ (ys : List X). Gave key before.given now.given waited ys n i) all (p.each n i a);
      in_order = subst (Stay key waited) all p.in_order;
      elsewhere = p.elsewhere;
      full = λ n i a kn some. by_held n i a kn some are (slice_index_or held n false) refl;
      counts = λ n i a kn. by_count n i a kn are (slice_index_or held n false) refl;
      all = λ q h. sym (ap (list_all q) all) ∙ p.all q h;
      fewer = subst (λ (ys : List X). length ys ≤ length waited) all p.fewer;
      grows = p.grows;
      moved_is = p.moved_is;
    }
  where
    by_held : (n i : ℕ) → at n i → known n → of_key key n new ≢ [] → new ≡ o.stay → (c : Bool) → slice_index_or held n false ≡ c → slice_index_or now.free i 0 ≡ 0
    by_held n i a kn some are true e = o.placing.full n i a kn e
    by_held n i a kn some are false e = absurd (some (ap (of_key key n) are ∙ o.placing.free_way n kn e))

    first_counts : (ys : List X) → ys ≢ [] → length (take 1 ys) ≡ 1
    first_counts [] some = absurd (some refl)
    first_counts (y ∷ ys) some = refl

    by_count : (n i : ℕ) → at n i → known n → new ≡ o.stay → (c : Bool) → slice_index_or held n false ≡ c → count_at i now.back ≡ counted (count_at i before.back) (length (take 1 (of_key key n new)))
    by_count n i a kn are true e =
        o.placing.counts n i a kn
        ∙ (ap (λ (b : Bool). counted (count_at i before.back) (one_if b)) e
        ∙ ap (counted (count_at i before.back)) (sym (ap (λ (ys : List X). length (take 1 (of_key key n ys))) are ∙ first_counts (of_key key n o.stay) (o.placing.held_up n e))))
    by_count n i a kn are false e =
        o.placing.counts n i a kn
        ∙ (ap (λ (b : Bool). counted (count_at i before.back) (one_if b)) e
        ∙ ap (λ (ys : List X). counted (count_at i before.back) (length (take 1 ys))) (sym (ap (of_key key n) are ∙ o.placing.free_way n kn e)))

-- ## The first of the deque

pub record Split {X : Type 0} (key : X → ℕ) (at : ℕ → ℕ → Type 0) (known : ℕ → Type 0) (before now : Rings X) (held : List Bool) (waited new : List X) (x : X) (left : ℕ) (moved : Bool) : Type 0 where
  pub rest : List X
  pub stay : List X
  pub are : new ≡ rest ++ stay
  pub left_are : length rest ≡ left
  pub placing : Placing key at known before now held waited (x ∷ rest) stay moved

same_head : {X : Type 0} (x y : X) (xs ys : List X) → x ∷ xs ≡ y ∷ ys → x ≡ y
same_head x y xs ys e = cc

same_tail : {X : Type 0} (x y : X) (xs ys : List X) → x ∷ xs ≡ y ∷ ys → xs ≡ ys
same_tail x y xs ys e = cc

first_waits : {X : Type 0} (key : X → ℕ) (at : ℕ → ℕ → Type 0) (known : ℕ → Type 0) (before now : Rings X) (held : List Bool) (waited old new : List X) (x : X) (left : ℕ) (moved : Bool)
    → old ≡ x ∷ new → OneFewer key at known before now held waited old (left + 1) moved → Split key at known before now held waited new x left moved
first_waits {X} key at known before now held waited old new x left moved e o = by_waits o.waits o.stay o.left_are (sym e ∙ o.are) o.placing
  where
    by_waits : (waits stay : List X) → length waits ≡ left + 1 → x ∷ new ≡ waits ++ stay → Placing key at known before now held waited waits stay moved → Split key at known before now held waited new x left moved
    by_waits [] stay len are p = absurd (omega arith)
    by_waits (y ∷ ws) stay len are p = record {
      rest = ws;
      stay = stay;
      are = same_tail x y new (ws ++ stay) are;
      left_are = omega arith;
      placing = subst (λ (z : X). Placing key at known before now held waited (z ∷ ws) stay moved) (sym (same_head x y new (ws ++ stay) are)) p;
    }

-- the first was offered, and given to the rings of its key
pub offers_given : {X : Type 0} (key : X → ℕ) (at : ℕ → ℕ → Type 0) (known : ℕ → Type 0) (now later : Rings X) (held : List Bool) (old new : List X) (x : X)
    → old ≡ x ∷ new → AreApart at → GivesOne at (key x) x now later → known (key x) → slice_index_or held (key x) false ≡ false → OffersFirst key at known now later held held old new true
unfolding OffersFirst
offers_given key at known now later held old new x e apart g k way before waited left earlier o =
    let s = first_waits key at known before now held waited old new x left earlier e o in
    record { waits = s.rest; stay = s.stay; are = s.are; left_are = s.left_are; placing = placing_given key at known before now later held waited s.stay s.rest x earlier apart g k way s.placing }

behind : {X : Type 0} (new rest stay back : List X) (x : X) → back ≡ new ++ x ∷ [] → new ≡ rest ++ stay → back ≡ rest ++ (stay ++ x ∷ [])
behind {X} new rest stay back x e are = e ∙ (ap (λ (ys : List X). ys ++ x ∷ []) are ∙ append_assoc rest stay (x ∷ []))

-- the first was offered and handed back, and stays behind the others
pub offers_back : {X : Type 0} (key : X → ℕ) (at : ℕ → ℕ → Type 0) (known : ℕ → Type 0) (now : Rings X) (freer backer : List ℕ) (held : List Bool) (old new back : List X) (x : X)
    → old ≡ x ∷ new → back ≡ new ++ x ∷ [] → AreApart at → FillsUp at (key x) now.free freer now.back backer → key x < length held → slice_index_or held (key x) false ≡ false
    → OffersFirst key at known now (record now { free = freer; back = backer }) held (slice_set held (key x) true) old back false
unfolding OffersFirst
offers_back key at known now freer backer held old new back x e are apart dry lt way before waited left earlier o =
    let s = first_waits key at known before now held waited old new x left earlier e o in
    record { waits = s.rest; stay = s.stay ++ x ∷ []; are = behind new s.rest s.stay back x are s.are; left_are = s.left_are; placing = placing_back key at known before now freer backer held waited s.stay s.rest x earlier apart dry lt way s.placing }

-- the first wasn't offered, and stays behind the others
pub offers_passed : {X : Type 0} (key : X → ℕ) (at : ℕ → ℕ → Type 0) (known : ℕ → Type 0) (now : Rings X) (held : List Bool) (old new back : List X) (x : X)
    → old ≡ x ∷ new → back ≡ new ++ x ∷ [] → (known (key x) → slice_index_or held (key x) false ≡ true) → OffersFirst key at known now now held held old back false
unfolding OffersFirst
offers_passed key at known now held old new back x e are way before waited left earlier o =
    let s = first_waits key at known before now held waited old new x left earlier e o in
    record { waits = s.rest; stay = s.stay ++ x ∷ []; are = behind new s.rest s.stay back x are s.are; left_are = s.left_are; placing = placing_passed key at known before now held waited s.stay s.rest x earlier way s.placing }

-- where none waits, nothing was offered
pub offers_none : {X : Type 0} (key : X → ℕ) (at : ℕ → ℕ → Type 0) (known : ℕ → Type 0) (now : Rings X) (held : List Bool) (old new : List X) → length old ≡ 0 → OffersFirst key at known now now held held old new false
unfolding OffersFirst
offers_none key at known now held old new none before waited left earlier o =
    absurd (let all = ap length o.are ∙ length-append o.waits o.stay in let left_are = o.left_are in omega arith)

-- where of no known key that isn't held up any waits, the others needn't be offered
pub placed_early : {X : Type 0} (key : X → ℕ) (at : ℕ → ℕ → Type 0) (known : ℕ → Type 0) (before now : Rings X) (held : List Bool) (waited new turned : List X) (left : ℕ) (moved : Bool)
    → OneFewer key at known before now held waited new left moved → ((n : ℕ) → known n → slice_index_or held n false ≡ false → of_key key n new ≡ []) → turned ≡ drop left new ++ take left new
    → Placed key at known before now waited turned moved
placed_early {X} key at known before now held waited new turned left moved o none is =
    let p = o.placing in
    let all : o.stay ++ o.waits ≡ turned = sym (is ∙ apart) in
    record {
      each = λ n i a. subst (λ (ys : List X). Gave key before.given now.given waited ys n i) all (p.each n i a);
      in_order = subst (Stay key waited) all p.in_order;
      elsewhere = p.elsewhere;
      full = λ n i a kn some. by_held n i a kn some all (slice_index_or held n false) refl;
      counts = λ n i a kn. by_count n i a kn all (slice_index_or held n false) refl;
      all = λ q h. sym (ap (list_all q) all) ∙ p.all q h;
      fewer = subst (λ (ys : List X). length ys ≤ length waited) all p.fewer;
      grows = p.grows;
      moved_is = p.moved_is;
    }
  where
    apart : drop left new ++ take left new ≡ o.stay ++ o.waits
    apart =
        ap (λ (ys : List X). drop left ys ++ take left ys) o.are
        ∙ subst (λ (n : ℕ). drop n (o.waits ++ o.stay) ++ take n (o.waits ++ o.stay) ≡ o.stay ++ o.waits) o.left_are
        (ap (λ (ys : List X). ys ++ take (length o.waits) (o.waits ++ o.stay)) (drop-append_seam o.waits o.stay) ∙ ap (λ (ys : List X). o.stay ++ ys) (take-append_seam o.waits o.stay))

    parts : (n : ℕ) (xs ys : List X) → of_key key n (xs ++ ys) ≡ of_key key n xs ++ of_key key n ys
    parts n xs ys = filter-append (λ (x : X). key x == n) xs ys

    -- none of a key at all where it isn't held up
    none_at : (n : ℕ) → known n → slice_index_or held n false ≡ false → of_key key n (o.stay ++ o.waits) ≡ []
    none_at n kn e =
        let waits : of_key key n o.waits ++ of_key key n o.stay ≡ [] = sym (parts n o.waits o.stay) ∙ (sym (ap (of_key key n) o.are) ∙ none n kn e) in
        parts n o.stay o.waits ∙ (ap (λ (ys : List X). ys ++ of_key key n o.waits) (o.placing.free_way n kn e) ∙ front_none (of_key key n o.waits) (of_key key n o.stay) waits)
      where
        front_none : (xs ys : List X) → xs ++ ys ≡ [] → xs ≡ []
        front_none [] ys e = refl
        front_none (x ∷ xs) ys e = absurd (let long = ap (length {A = X}) e in omega (arith, long))

    by_held : (n i : ℕ) → at n i → known n → of_key key n turned ≢ [] → o.stay ++ o.waits ≡ turned → (c : Bool) → slice_index_or held n false ≡ c → slice_index_or now.free i 0 ≡ 0
    by_held n i a kn some are true e = o.placing.full n i a kn e
    by_held n i a kn some are false e = absurd (some (sym (ap (of_key key n) are) ∙ none_at n kn e))

    first_counts : (ys zs : List X) → ys ≢ [] → length (take 1 (ys ++ zs)) ≡ 1
    first_counts [] zs some = absurd (some refl)
    first_counts (y ∷ ys) zs some = refl

    by_count : (n i : ℕ) → at n i → known n → o.stay ++ o.waits ≡ turned → (c : Bool) → slice_index_or held n false ≡ c → count_at i now.back ≡ counted (count_at i before.back) (length (take 1 (of_key key n turned)))
    by_count n i a kn are true e =
        o.placing.counts n i a kn
        ∙ (ap (λ (b : Bool). counted (count_at i before.back) (one_if b)) e
        ∙ ap (counted (count_at i before.back)) (sym (sym (ap (λ (ys : List X). length (take 1 (of_key key n ys))) are) ∙ (ap (λ (ys : List X). length (take 1 ys)) (parts n o.stay o.waits) ∙ first_counts (of_key key n o.stay) (of_key key n o.waits) (o.placing.held_up n e)))))
    by_count n i a kn are false e =
        o.placing.counts n i a kn
        ∙ (ap (λ (b : Bool). counted (count_at i before.back) (one_if b)) e
        ∙ ap (counted (count_at i before.back)) (sym (sym (ap (λ (ys : List X). length (take 1 (of_key key n ys))) are) ∙ ap (λ (ys : List X). length (take 1 ys)) (none_at n kn e))))
