-- Outcomes are offered to their callers.
use Rattle.std.proofs.Common.{sym, ◌∙◌, subst, arith, inl, inr, ⊎_elim, ap}
use Rattle.std.proofs.lemmas.Bool.Decides.{eqb_tells}
use Rattle.std.specs.Prelude.{◌≡◌, ◌≢◌, ℕ, ◌+◌, ◌-◌, ◌<◌, ◌==◌, ◌||◌, ◌⊎◌, Bool, true, false, List, [], ◌∷◌, ◌++◌, length, refl, replicate, slice_index_or}
use Rattle.modem_desk.specs.declared.request.Outcome.{Outcome}
use Rattle.modem_desk.specs.Ends.{DriverView, DeskId, Appends, Changes, FallsByOne, RunsOut, RisesByOne}
use Rattle.modem_history.specs.Sessions.{at_place}
use Rattle.modem_core.specs.Placing.{Placed, OneFewer, OffersFirst, TellsAlone, caller_of, IsRingOf, IsCaller, caller_rings, listener_rings}
use Rattle.modem_core.proofs.sessions.steps.FirstOffers.{either, none_held, AreApart, GivesOne, FillsUp, placing_first, placed_last}

-- ## Rings of callers

-- no two callers have a ring together
pub rings_apart : AreApart IsRingOf
rings_apart = record {
  same = λ n m i a b. sym a ∙ b;
  tells = λ n i. by_test n i (eqb_tells i n);
}
  where
    by_test : (n i : ℕ) → ((i == n) ≡ true × i ≡ n) ⊎ ((i == n) ≡ false × i ≢ n) → (i ≡ n) ⊎ (¬ (i ≡ n))
    by_test n i h = ⊎_elim (λ (y : (i == n) ≡ true × i ≡ n). inl y.1) (λ (y : (i == n) ≡ false × i ≢ n). inr y.1) h

-- an outcome that was told is one more in its caller's ring, and every other ring stays
pub ring_given : (o : Outcome) (now later : DriverView) → Appends o.caller o now.told later.told → Changes (λ k. k ≡ o.caller) FallsByOne now.free later.free → later.told_back ≡ now.told_back → GivesOne IsRingOf (caller_of o) o (caller_rings now) (caller_rings later)
ring_given o now later a c back = record {
  here = λ i e. subst (λ (j : ℕ). at_place j later.told ≡ at_place j now.told ++ o ∷ []) (sym e) a.here;
  others = a.others;
  free_others = c.others;
  back_same = back;
  one = o.caller;
  is_one = refl;
}

-- a ring that handed one back is known to have no free place, and counts it
pub ring_full : (n : ℕ) (free freer back backer : List ℕ) → Changes (λ k. k ≡ n) RunsOut free freer → Changes (λ k. k ≡ n) RisesByOne back backer → FillsUp IsRingOf n free freer back backer
ring_full n free freer back backer c e = record { here = c.here; others = c.others; counts = e.here; count_others = e.others }

-- telling changes nothing else
pub told_alone : (now later : DriverView) → later ≡ record now { told = later.told; free = later.free; told_back = later.told_back } → TellsAlone now later
told_alone now later same = record {
  desk = ap (λ (v : DriverView). v.desk) same;
  taken = ap (λ (v : DriverView). v.taken) same;
  found_none = ap (λ (v : DriverView). v.found_none) same;
  listeners = ap listener_rings same;
}

-- ## One after the other

pub record TellsSo (first now : DriverView) (held : List Bool) (waited waits : List Outcome) (left : ℕ) (moved : Bool) : Type 0 where
  pub fewer : OneFewer caller_of IsRingOf (IsCaller first.desk) (caller_rings first) (caller_rings now) held waited waits left moved
  pub alone : TellsAlone first now

-- before the first all wait to be offered
pub tells_first : (d : DriverView) (held : List Bool) (waited : List Outcome) (count : ℕ) → ((n : ℕ) → slice_index_or held n false ≡ false) → count ≡ length waited → TellsSo d d held waited waited (count - 0) false
tells_first d held waited count none e = record {
  fewer = subst (λ (n : ℕ). OneFewer caller_of IsRingOf (IsCaller d.desk) (caller_rings d) (caller_rings d) held waited waited n false) (sym e ∙ all) (placing_first caller_of IsRingOf (IsCaller d.desk) (caller_rings d) held waited none);
  alone = record { desk = refl; taken = refl; found_none = refl; listeners = refl };
}
  where
    all : count ≡ count - 0
    all = omega arith

-- one more was offered, or stays
pub tells_more : (first now later : DriverView) (held more_held : List Bool) (waited waits rest : List Outcome) (place end : ℕ) (moved earlier : Bool) → place < end
    → OffersFirst caller_of IsRingOf (IsCaller now.desk) (caller_rings now) (caller_rings later) held more_held waits rest moved → TellsAlone now later
    → TellsSo first now held waited waits (end - place) earlier → TellsSo first later more_held waited rest (end - (place + 1)) (earlier || moved)
unfolding OffersFirst
tells_more first now later held more_held waited waits rest place end moved earlier lt offers alone so =
    let one : end - place ≡ (end - (place + 1)) + 1 = omega arith in
    let before = subst (λ (n : ℕ). OneFewer caller_of IsRingOf (IsCaller first.desk) (caller_rings first) (caller_rings now) held waited waits n earlier) one so.fewer in
    let here = subst (λ (k : DeskId). OneFewer caller_of IsRingOf (IsCaller k) (caller_rings first) (caller_rings now) held waited waits (end - (place + 1) + 1) earlier) (sym so.alone.desk) before in
    record {
      fewer =
          subst (λ (m : Bool). OneFewer caller_of IsRingOf (IsCaller first.desk) (caller_rings first) (caller_rings later) more_held waited rest (end - (place + 1)) m) (either moved earlier)
          (subst (λ (k : DeskId). OneFewer caller_of IsRingOf (IsCaller k) (caller_rings first) (caller_rings later) more_held waited rest (end - (place + 1)) (moved || earlier)) so.alone.desk (offers (caller_rings first) waited (end - (place + 1)) earlier here));
      alone = record {
        desk = alone.desk ∙ so.alone.desk;
        taken = alone.taken ∙ so.alone.taken;
        found_none = alone.found_none ∙ so.alone.found_none;
        listeners = alone.listeners ∙ so.alone.listeners;
      };
    }

-- behind the last all are placed that may be
pub tells_last : (first now : DriverView) (held : List Bool) (waited waits : List Outcome) (left : ℕ) (moved : Bool) → left ≡ 0 → TellsSo first now held waited waits left moved
    → Placed caller_of IsRingOf (IsCaller first.desk) (caller_rings first) (caller_rings now) waited waits moved
tells_last first now held waited waits left moved none so =
    placed_last caller_of IsRingOf (IsCaller first.desk) (caller_rings first) (caller_rings now) held waited waits moved
    (subst (λ (n : ℕ). OneFewer caller_of IsRingOf (IsCaller first.desk) (caller_rings first) (caller_rings now) held waited waits n moved) none so.fewer)

-- where none waits there is nothing to be done
pub tells_none : (d : DriverView) (waited : List Outcome) → waited ≡ [] → Placed caller_of IsRingOf (IsCaller d.desk) (caller_rings d) (caller_rings d) waited waited false
tells_none d waited none =
    tells_last d d (replicate 256 false) waited waited (0 - 0) false refl (tells_first d (replicate 256 false) waited 0 (none_held 256) (sym (ap (length {A = Outcome}) none)))
