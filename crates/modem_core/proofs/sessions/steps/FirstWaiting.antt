-- The least caller of the outcomes that wait, and the first line.
use Rattle.std.proofs.Common.{ap, sym, ◌∙◌, subst, arith}
use Rattle.std.proofs.lemmas.Bool.{eq-eqb, le-leb, leb-true, leb-false}
use Rattle.std.proofs.lemmas.List.{append-nil, map-append}
use Rattle.std.proofs.lemmas.List.Elements.{All-append, Contains-append_left, Contains-append_right}
use Rattle.std.proofs.lemmas.List.Sums.{list_all-from_AllPass}
use Rattle.std.specs.Prelude.{◌≡◌, ℕ, zero, suc, Bool, false, if◌then◌else◌, ◌<◌, ◌≤◌, ◌==◌, nat_le, min, true, List, [], ◌∷◌, ◌++◌, length, map, take, refl, slice_index_or, All, Contains}
use Rattle.modem_desk.specs.declared.request.Outcome.{Outcome}
use Rattle.modem_desk.specs.declared.request.Urc.{Urc}
use Rattle.modem_history.specs.Sessions.{caller_outcomes}
use Rattle.modem_core.specs.WaitingLists.{IsFirstOf, IsLeast}

-- lines of which there is no first are none
pub none_of : (us : List Urc) → ((0 < length us) → ⊥) → us ≡ []
none_of [] h = refl
none_of (u ∷ us) h = absurd (h (omega arith))

-- the line at the first place is the first, of its kind
pub first_of : (us : List Urc) (u : Urc) → 0 < length us → u ≡ slice_index_or us 0 u → IsFirstOf u.kind us
first_of [] u some e = absurd (no_some some)
  where
    no_some : 0 < 0 → ⊥
    no_some h = omega (arith, h)
first_of (v ∷ us) u some e = record { line = v; first = refl; is_of = ap (λ (w : Urc). w.kind) (sym e) }

-- whoever has one of them has a first one
record HasFirst (c : ℕ) (os : List Outcome) : Type 0 where
  outcome : Outcome
  first : take 1 (caller_outcomes c os) ≡ outcome ∷ []

caller_in : Outcome → ℕ
caller_in o = o.caller

has_first : (c : ℕ) (os : List Outcome) (k : ℕ) → k < length (map caller_in os) → slice_index_or (map caller_in os) k c ≡ c → HasFirst c os
unfolding caller_in
has_first c [] k few e = absurd (none few)
  where
    none : k < 0 → ⊥
    none h = omega (arith, h)
has_first c (o ∷ os) k few e = by_test (o.caller == c) refl (has_first c os)
  where
    later : (j : ℕ) → k ≡ suc j → slice_index_or (map caller_in os) j c ≡ c
    later j h = ap (λ (n : ℕ). slice_index_or (map caller_in (o ∷ os)) n c) (sym h) ∙ e

    by_place : (n : ℕ) → k ≡ n → (o.caller == c) ≡ false → ((j : ℕ) → j < length (map caller_in os) → slice_index_or (map caller_in os) j c ≡ c → HasFirst c os) → HasFirst c os
    by_place zero h not go =
        let first : o.caller ≡ c = ap (λ (n : ℕ). slice_index_or (map caller_in (o ∷ os)) n c) (sym h) ∙ e in
        let both : true ≡ false = sym (eq-eqb o.caller c first) ∙ not in
        absurd (let x = both in cc)
    by_place (suc j) h not go = go j (omega (arith, few, h)) (later j h)

    by_test : (b : Bool) → (o.caller == c) ≡ b → ((j : ℕ) → j < length (map caller_in os) → slice_index_or (map caller_in os) j c ≡ c → HasFirst c os) → HasFirst c (o ∷ os)
    by_test true h go = record { outcome = o; first = ap (λ (b : Bool). take 1 (if b then o ∷ caller_outcomes c os else caller_outcomes c os)) h }
    by_test false h go =
        let f = by_place k refl h go in
        record { outcome = f.outcome; first = ap (λ (b : Bool). take 1 (if b then o ∷ caller_outcomes c os else caller_outcomes c os)) h ∙ f.first }

-- all at least c, and one is c's
is_least : (c : ℕ) (os : List Outcome) → All (λ (o : Outcome). c ≤ o.caller) os → Contains (map caller_in os) c → IsLeast c os
is_least c os all (k, few, e) =
    let f = has_first c os k few e in
    record { outcome = f.outcome; first = f.first; least = list_all-from_AllPass (λ (o : Outcome). nat_le c o.caller) os (λ k d few. le-leb c (slice_index_or os k d).caller (all k d few)) }

-- of all, of which the first part has the least
pub least_alone : (c : ℕ) (os more : List Outcome) → All (λ (o : Outcome). c ≤ o.caller) os → Contains (map (λ (o : Outcome). o.caller) os) c → more ≡ [] → IsLeast c (os ++ more)
unfolding caller_in
least_alone c os more least has none = subst (λ (xs : List Outcome). IsLeast c (os ++ xs)) (sym none) (subst (IsLeast c) (sym (append-nil os)) (is_least c os least has))

-- of both parts
pub least_both : (a b : ℕ) (os more : List Outcome) → All (λ (o : Outcome). a ≤ o.caller) os → Contains (map (λ (o : Outcome). o.caller) os) a → All (λ (o : Outcome). b ≤ o.caller) more → Contains (map (λ (o : Outcome). o.caller) more) b
    → IsLeast (min a b) (os ++ more)
unfolding caller_in
least_both a b os more all has rest later =
    is_least (min a b) (os ++ more)
    (All-append (λ (o : Outcome). min a b ≤ o.caller) os more (λ k d few. let h = all k d few in omega (arith, h)) (λ k d few. let h = rest k d few in omega (arith, h)))
    (subst (λ (cs : List ℕ). Contains cs (min a b)) (sym (map-append caller_in os more)) (by_order (nat_le a b) refl))
  where
    by_order : (t : Bool) → nat_le a b ≡ t → Contains (map caller_in os ++ map caller_in more) (min a b)
    by_order true h =
        let le = leb-true a b h in
        let same : min a b ≡ a = omega (arith, le) in
        subst (Contains (map caller_in os ++ map caller_in more)) (sym same) (Contains-append_left (map caller_in os) (map caller_in more) a has)
    by_order false h =
        let less = leb-false a b h in
        let same : min a b ≡ b = omega (arith, less) in
        subst (Contains (map caller_in os ++ map caller_in more)) (sym same) (Contains-append_right (map caller_in os) (map caller_in more) b later)
