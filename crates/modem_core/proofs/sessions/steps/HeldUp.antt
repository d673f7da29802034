-- All lines that wait are of one kind, whose listener has no place.
use Rattle.std.proofs.Common.{ap, sym, ◌∙◌, subst, arith}
use Rattle.std.proofs.lemmas.Bool.{eqb-true, eq-eqb}
use Rattle.std.proofs.lemmas.List.{append-nil, take-append-drop}
use Rattle.std.specs.Prelude.{◌≡◌, ◌≢◌, ℕ, ◌≤◌, ◌==◌, nat_lt, Bool, true, false, List, [], ◌∷◌, ◌++◌, length, take, drop, refl, slice_index_or, if◌then◌else◌}
use Rattle.modem_desk.specs.declared.request.Urc.{Urc}
use Rattle.modem_desk.specs.Ends.{DriverView, Changes, RunsOut, RisesByOne, Hears}
use Rattle.modem_history.specs.Sessions.{at_place}
use Rattle.modem_history.specs.EveryTurn.{count_at}
use Rattle.modem_history.specs.Turns.{amount, counted}
use Rattle.at_text.specs.Kinds.{kind_place}
use Rattle.modem_core.specs.Placing.{Rings, Gave, Placed, AnnouncesAlone, IsListenerOf, IsHeard, listener_rings}
use Rattle.modem_queues.specs.LineQueues.{of_key, place_of}
use Rattle.modem_core.proofs.sessions.steps.RemainingItems.{own_first, other, stay_all}
use Rattle.modem_core.proofs.sessions.steps.FirstOffers.{AreApart, FillsUp}
use Rattle.modem_core.proofs.sessions.steps.ListenerOffers.{listener_full, listeners_apart}

false_true : false ≡ true → ⊥
false_true h = cc

not_less : (n : ℕ) → false ≡ nat_lt n n
not_less n = grind arith

-- ## All are of one key

few_of : {X : Type 0} (key : X → ℕ) (n : ℕ) (xs : List X) → length (of_key key n xs) ≤ length xs
few_of key n [] = omega arith
few_of {X} key n (x ∷ xs) = by_test (key x == n) (few_of key n xs)
  where
    by_test : (c : Bool) → length (of_key key n xs) ≤ length xs → length (if c then x ∷ of_key key n xs else of_key key n xs) ≤ length (x ∷ xs)
    by_test true few = omega arith
    by_test false few = omega arith

-- where as many are of a key as there are, none is of another
pub all_of_one : {X : Type 0} (key : X → ℕ) (n m : ℕ) (xs : List X) → length xs ≤ length (of_key key n xs) → (n == m) ≡ false → of_key key m xs ≡ []
all_of_one key n m [] many apart = refl
all_of_one {X} key n m (x ∷ xs) many apart = by_test (key x == n) refl many (λ rest. all_of_one key n m xs rest apart)
  where
    by_test : (c : Bool) → (key x == n) ≡ c → length (x ∷ xs) ≤ length (if c then x ∷ of_key key n xs else of_key key n xs) → (length xs ≤ length (of_key key n xs) → of_key key m xs ≡ []) → of_key key m (x ∷ xs) ≡ []
    by_test true e many further =
        let rest : length xs ≤ length (of_key key n xs) = omega (arith, many) in
        other key m x xs (ap (λ (k : ℕ). k == m) (eqb-true (key x) n e) ∙ apart) ∙ further rest
    by_test false e many further = let few = few_of key n xs in absurd (omega (arith, many, few))

-- ## All stay

-- The first is handed back, and all stay, since all are of its key.
pub all_stay : {X : Type 0} (key : X → ℕ) (at : ℕ → ℕ → Type 0) (known : ℕ → Type 0) (before now : Rings X) (waited rest : List X) (x : X)
    → waited ≡ x ∷ rest → ((n : ℕ) → (key x == n) ≡ false → of_key key n waited ≡ []) → AreApart at → now.given ≡ before.given
    → FillsUp at (key x) before.free now.free before.back now.back → Placed key at known before now waited waited false
all_stay {X} key at known before now waited rest x are others apart same dry =
    record {
      each = λ n i a. record { since = []; given_are = ap (at_place i) same ∙ sym (append-nil (at_place i before.given)); rest_are = refl };
      in_order = stay_all key waited;
      elsewhere = λ i no. ap (at_place i) same;
      full = λ n i a k some. by_full n i a some (key x == n) refl;
      counts = λ n i a k. by_count n i a (key x == n) refl;
      all = λ p h. h;
      fewer = omega arith;
      grows = let e = ap amount same in omega (arith, e);
      moved_is = not_less (amount before.given) ∙ ap (λ (gs : List (List X)). nat_lt (amount before.given) (amount gs)) (sym same);
    }
  where
    mine : (n i : ℕ) → at n i → (key x == n) ≡ true → at (key x) i
    mine n i a e = subst (λ (m : ℕ). at m i) (sym (eqb-true (key x) n e)) a

    by_full : (n i : ℕ) → at n i → of_key key n waited ≢ [] → (c : Bool) → (key x == n) ≡ c → slice_index_or now.free i 0 ≡ 0
    by_full n i a some true e = dry.here i (mine n i a e)
    by_full n i a some false e = absurd (some (others n e))

    by_count : (n i : ℕ) → at n i → (c : Bool) → (key x == n) ≡ c → count_at i now.back ≡ counted (count_at i before.back) (length (take 1 (of_key key n waited)))
    by_count n i a true e = dry.counts i (mine n i a e) ∙ sym (ap (λ (xs : List X). counted (count_at i before.back) (length (take 1 xs))) (ap (of_key key n) are ∙ own_first key n x rest e))
    by_count n i a false e =
        dry.count_others i (λ here. false_true (sym e ∙ eq-eqb (key x) n (apart.same (key x) n i here a)))
        ∙ sym (ap (λ (xs : List X). counted (count_at i before.back) (length (take 1 xs))) (others n e))

-- all lines stay where the listener of their kind has no place
pub lines_stay : (d e : DriverView) (waited : List Urc) (u : Urc) → take 1 waited ≡ u ∷ [] → length waited ≤ length (of_key place_of (kind_place u.kind) waited) → e.announced ≡ d.announced
    → Changes (Hears d.desk.kinds u.kind) RunsOut d.free_lines e.free_lines → Changes (Hears d.desk.kinds u.kind) RisesByOne d.announced_back e.announced_back
    → Placed place_of (IsListenerOf d.desk.kinds) (IsHeard d.desk.kinds) (listener_rings d) (listener_rings e) waited waited false
lines_stay d e waited u first many same full back =
    all_stay place_of (IsListenerOf d.desk.kinds) (IsHeard d.desk.kinds) (listener_rings d) (listener_rings e) waited (drop 1 waited) u
    (sym (take-append-drop 1 waited) ∙ ap (λ (us : List Urc). us ++ drop 1 waited) first)
    (λ m apart. all_of_one place_of (kind_place u.kind) m waited many apart)
    (listeners_apart d.desk.kinds) same
    (listener_full d.desk.kinds u.kind d.free_lines e.free_lines d.announced_back e.announced_back full back)

-- ## Rings that were looked at first

pub placed_looked : {X : Type 0} (key : X → ℕ) (at : ℕ → ℕ → Type 0) (known : ℕ → Type 0) (before looked now : Rings X) (waited waits : List X) (moved : Bool)
    → looked.given ≡ before.given → looked.back ≡ before.back → Placed key at known looked now waited waits moved → Placed key at known before now waited waits moved
placed_looked {X} key at known before looked now waited waits moved given back p =
    record {
      each = λ n i a. subst (λ (gs : List (List X)). Gave key gs now.given waited waits n i) given (p.each n i a);
      in_order = p.in_order;
      elsewhere = λ i no. p.elsewhere i no ∙ ap (at_place i) given;
      full = p.full;
      counts = λ n i a k. p.counts n i a k ∙ ap (λ (bs : List ℕ). counted (count_at i bs) (length (take 1 (of_key key n waits)))) back;
      all = p.all;
      fewer = p.fewer;
      grows = subst (λ (gs : List (List X)). amount gs ≤ amount now.given) given p.grows;
      moved_is = p.moved_is ∙ ap (λ (gs : List (List X)). nat_lt (amount gs) (amount now.given)) given;
    }

-- lines alone were announced, at first and then
pub announces_on : (first now later : DriverView) → AnnouncesAlone first now → AnnouncesAlone now later → AnnouncesAlone first later
announces_on first now later a b = record { desk = b.desk ∙ a.desk; taken = b.taken ∙ a.taken; found_none = b.found_none ∙ a.found_none; callers = b.callers ∙ a.callers }
