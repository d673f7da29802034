-- Contexts in rising order of their numbers.
use Rattle.std.specs.Prelude.{◌≡◌, ◌≢◌, ℕ, suc, ◌+◌, ◌-◌, ◌<◌, ◌≤◌, ◌==◌, nat_lt, nat_le, Bool, true, false, List, [], ◌∷◌, ◌++◌, length, take, drop, Some, None, cond, slice_set, slice_index_or, refl}
use Rattle.std.specs.List.{position_from, insert}
use Rattle.std.proofs.Common.{arith, ap, sym, subst, ◌∙◌, add-one, drop-cons}
use Rattle.std.proofs.lemmas.List.{take-append-drop, take-set, drop-set}
use Rattle.std.proofs.lemmas.Bool.Decides.{nat_tests}
use Rattle.modem_sim.specs.declared.contexts.PdpContext.{PdpContext}
use Rattle.modem_sim.specs.Contexts.{with_context}

-- a context isn't below a new one
abbrev from_new : PdpContext → PdpContext → Bool
from_new new c = nat_le new.cid c.cid

-- the first that isn't below is found behind those that are
record FoundAt (new : PdpContext) (contexts : List PdpContext) (i : ℕ) : Type 0 where
  inside : i < length contexts
  front : with_context new contexts ≡ take i contexts ++ with_context new (drop i contexts)
  here : (d : PdpContext) → from_new new (slice_index_or contexts i d) ≡ true

found_step : (new c : PdpContext) (contexts : List PdpContext) (k j : ℕ) → (b : Bool) → from_new new c ≡ b → (position_from (from_new new) (k + 1) contexts ≡ Some j → (k + 1 ≤ j) × FoundAt new contexts (j - (k + 1))) → cond b (Some k) (position_from (from_new new) (k + 1) contexts) ≡ Some j → (k ≤ j) × FoundAt new (c ∷ contexts) (j - k)
found_step new c contexts k j true is more found =
    let same : k ≡ j = cc in
    let none : j - k ≡ 0 = omega arith in
    (omega arith, rw none (record { inside = omega arith; front = refl; here = λ d. is }))
found_step new c contexts k j false is more found =
    let later = more found in
    let i = j - (k + 1) in
    let next : j - k ≡ suc i = omega (arith, later.0) in
    let below : nat_lt c.cid new.cid ≡ true = grind (arith, nat_tests) in (
      omega (arith, later.0),
      rw next (record {
        inside = omega (arith, later.1.inside);
        front = rw below (ap (λ x. c ∷ x) later.1.front);
        here = later.1.here;
      }),
    )

found : (new : PdpContext) (contexts : List PdpContext) (k j : ℕ) → position_from (from_new new) k contexts ≡ Some j → (k ≤ j) × FoundAt new contexts (j - k)
found new [] k j is = cc
found new (c ∷ contexts) k j is = found_step new c contexts k j (from_new new c) refl (found new contexts (k + 1) j) is

found_here : (new : PdpContext) (contexts seen : List PdpContext) (i : ℕ) → contexts ≡ seen → Some i ≡ position_from (from_new new) 0 seen → FoundAt new contexts i
found_here new contexts seen i view is =
    let none : i - 0 ≡ i = omega arith in
    let At : ℕ → Type 0 = λ n. FoundAt new contexts n in
    subst At none (found new contexts 0 i (ap (position_from (from_new new) 0) view ∙ sym is)).1

-- it stands among the contexts
pub found_inside : (new : PdpContext) (contexts : List PdpContext) (i : ℕ) → Some i ≡ position_from (from_new new) 0 contexts → i < length contexts
found_inside new contexts i is = (found_here new contexts contexts i refl is).inside

split_at : (kept : PdpContext) (contexts : List PdpContext) (i : ℕ) → i < length contexts → kept ≡ slice_index_or contexts i kept → drop i contexts ≡ kept ∷ drop (i + 1) contexts
split_at kept contexts i inside here = rw add-one (drop-cons contexts i kept inside ∙ ap (λ x. x ∷ drop (suc i) contexts) (sym here))

-- if it has the new one's number it is replaced
pub replaced : (new kept : PdpContext) (contexts seen : List PdpContext) (i : ℕ) → contexts ≡ seen → Some i ≡ position_from (from_new new) 0 seen → kept ≡ slice_index_or contexts i kept → kept.cid ≡ new.cid → slice_set contexts i new ≡ with_context new contexts
replaced new kept contexts seen i view is here same =
    let found = found_here new contexts seen i view is in
    let not_below : nat_lt kept.cid new.cid ≡ false = grind (arith, nat_tests) in
    let equal : (kept.cid == new.cid) ≡ true = grind (arith, nat_tests) in
    let front : with_context new (kept ∷ drop (i + 1) contexts) ≡ new ∷ drop (i + 1) contexts = rw (not_below, equal) refl in
    sym (take-append-drop i (slice_set contexts i new))
    ∙ ap (λ x. x ++ drop i (slice_set contexts i new)) (take-set contexts i new)
    ∙ ap (λ x. take i contexts ++ x) (drop-set contexts i new found.inside ∙ sym front ∙ ap (with_context new) (sym (split_at kept contexts i found.inside here)))
    ∙ sym found.front

-- else the new one goes before it
pub inserted : (new kept : PdpContext) (contexts seen : List PdpContext) (i : ℕ) → contexts ≡ seen → Some i ≡ position_from (from_new new) 0 seen → kept ≡ slice_index_or contexts i kept → kept.cid ≢ new.cid → insert contexts i new ≡ with_context new contexts
inserted new kept contexts seen i view is here other =
    let found = found_here new contexts seen i view is in
    let split = split_at kept contexts i found.inside here in
    let from : nat_le new.cid kept.cid ≡ true = ap (from_new new) here ∙ found.here kept in
    let not_below : nat_lt kept.cid new.cid ≡ false = grind (arith, nat_tests) in
    let unequal : (kept.cid == new.cid) ≡ false = grind (arith, nat_tests) in
    let front : with_context new (kept ∷ drop (i + 1) contexts) ≡ new ∷ kept ∷ drop (i + 1) contexts = rw (not_below, unequal) refl in
    ap (λ x. take i contexts ++ x) (ap (λ x. new ∷ x) split ∙ sym front ∙ ap (with_context new) (sym split)) ∙ sym found.front

appended_step : (new c : PdpContext) (contexts : List PdpContext) (k : ℕ) (b : Bool) → from_new new c ≡ b → (position_from (from_new new) (k + 1) contexts ≡ None → with_context new contexts ≡ contexts ++ new ∷ []) → cond b (Some k) (position_from (from_new new) (k + 1) contexts) ≡ None → with_context new (c ∷ contexts) ≡ (c ∷ contexts) ++ new ∷ []
appended_step new c contexts k true is more none = cc
appended_step new c contexts k false is more none =
    let below : nat_lt c.cid new.cid ≡ true = grind (arith, nat_tests) in
    rw below (ap (λ x. c ∷ x) (more none))

appended_from : (new : PdpContext) (contexts : List PdpContext) (k : ℕ) → position_from (from_new new) k contexts ≡ None → with_context new contexts ≡ contexts ++ new ∷ []
appended_from new [] k none = refl
appended_from new (c ∷ contexts) k none = appended_step new c contexts k (from_new new c) refl (appended_from new contexts (k + 1)) none

-- where all are below it goes to the end
pub appended : (new : PdpContext) (contexts seen : List PdpContext) → contexts ≡ seen → None ≡ position_from (from_new new) 0 seen → contexts ++ new ∷ [] ≡ with_context new contexts
appended new contexts seen view none = sym (appended_from new contexts 0 (ap (position_from (from_new new) 0) view ∙ sym none))
