-- Lines are offered to the listeners of their kinds.
use Rattle.std.proofs.Common.{ap, sym, ◌∙◌, subst, arith, inl, inr, ⊎_elim}
use Rattle.std.proofs.lemmas.Bool.{eq-eqb}
use Rattle.std.proofs.lemmas.Bool.Decides.{eqb_tells}
use Rattle.std.specs.Prelude.{◌≡◌, ◌≢◌, ℕ, zero, suc, ◌+◌, ◌-◌, ◌<◌, ◌==◌, ◌||◌, ◌⊎◌, Bool, true, false, List, [], ◌∷◌, length, refl, replicate, take, drop, ◌++◌, slice_index_or, Contains}
use lib.ListN.{get_elem?}
use mathlib.Core.Option.{some, some-injective, some-ne-none}
use Rattle.at_text.specs.declared.unsolicited.UrcKind.{UrcKind}
use Rattle.modem_desk.specs.declared.request.Urc.{Urc}
use Rattle.modem_desk.specs.Ends.{DriverView, DeskId, Announces, Changes, FallsByOne, RunsOut, RisesByOne, Hears}
use Rattle.at_text.specs.Kinds.{kind_place}
use Rattle.modem_core.specs.Placing.{LeavesAll, Placed, OneFewer, OffersFirst, AnnouncesAlone, IsListenerOf, IsHeard, caller_rings, listener_rings}
use Rattle.modem_queues.specs.LineQueues.{of_key, place_of}
use Rattle.at_text.proofs.SameKinds.{same_place}
use Rattle.modem_core.proofs.sessions.steps.FirstOffers.{either, none_held, AreApart, GivesOne, FillsUp, placing_first, placed_early, placed_last}

-- ## Listeners of kinds

same_kind : (k m : UrcKind) → kind_place k ≡ kind_place m → k ≡ m
same_kind k m e = same_place k m (eq-eqb (kind_place k) (kind_place m) e)

one_kind : (ks : List UrcKind) (i : ℕ) (k m : UrcKind) → get_elem? ks i ≡ some k → get_elem? ks i ≡ some m → k ≡ m
one_kind ks i k m p q = some-injective k m (sym p ∙ q)

is_listener : (ks : List UrcKind) (n i : ℕ) → IsListenerOf ks n i ⊎ (¬ IsListenerOf ks n i)
is_listener [] n i = inr (λ e. some-ne-none e.kind (sym e.is_at))
is_listener (k ∷ ks) n zero = ⊎_elim (λ (y : (kind_place k == n) ≡ true × kind_place k ≡ n). inl (record { kind = k; is_place = y.1; is_at = refl }))
    (λ (y : (kind_place k == n) ≡ false × kind_place k ≢ n). inr (λ e. y.1 (ap kind_place (some-injective k e.kind e.is_at) ∙ e.is_place))) (eqb_tells (kind_place k) n)
is_listener (k ∷ ks) n (suc i) = ⊎_elim (λ (e : IsListenerOf ks n i). inl (record { kind = e.kind; is_place = e.is_place; is_at = e.is_at }))
    (λ (o : ¬ IsListenerOf ks n i). inr (λ e. o (record { kind = e.kind; is_place = e.is_place; is_at = e.is_at }))) (is_listener ks n i)

-- no two kinds have a listener together
pub listeners_apart : (ks : List UrcKind) → AreApart (IsListenerOf ks)
listeners_apart ks = record {
  same = λ n m i a b. sym a.is_place ∙ (ap kind_place (one_kind ks i a.kind b.kind a.is_at b.is_at) ∙ b.is_place);
  tells = is_listener ks;
}

-- where a kind stands
record Stands (ks : List UrcKind) (k : UrcKind) : Type 0 where
  place : ℕ
  is_at : get_elem? ks place ≡ some k

stands : (ks : List UrcKind) (k : UrcKind) → Contains ks k → Stands ks k
stands [] k c = absurd (let lt : c.0 < 0 = c.1 in omega arith)
stands (m ∷ ks) k (zero, lt, e) = record { place = zero; is_at = ap some e }
stands (m ∷ ks) k (suc i, lt, e) = let s = stands ks k (i, omega arith, e) in record { place = suc s.place; is_at = s.is_at }

subscription_at : (ks : List UrcKind) (k : UrcKind) (i : ℕ) → get_elem? ks i ≡ some k → IsListenerOf ks (kind_place k) i
subscription_at ks k i e = record { kind = k; is_place = refl; is_at = e }

at_subscription : (ks : List UrcKind) (k : UrcKind) (i : ℕ) → IsListenerOf ks (kind_place k) i → get_elem? ks i ≡ some k
at_subscription ks k i e = e.is_at ∙ ap some (same_kind e.kind k e.is_place)

-- a line that was announced is one more for each listener of its kind, and every other listener's stay
pub listener_given : (ks : List UrcKind) (u : Urc) (now later : DriverView) → Contains ks u.kind → Announces ks u now.announced later.announced → Changes (Hears ks u.kind) FallsByOne now.free_lines later.free_lines → later.announced_back ≡ now.announced_back → GivesOne (IsListenerOf ks) (place_of u) u (listener_rings now) (listener_rings later)
listener_given ks u now later has a c back =
    let s = stands ks u.kind has in
    record {
      here = λ i e. a.here i (at_subscription ks u.kind i e);
      others = λ i o. a.others i (λ h. o (subscription_at ks u.kind i h));
      free_others = λ i o. c.others i (λ h. o (subscription_at ks u.kind i h));
      back_same = back;
      one = s.place;
      is_one = subscription_at ks u.kind s.place s.is_at;
    }

-- listeners that handed one back are known to have no free place, and count it
pub listener_full : (ks : List UrcKind) (k : UrcKind) (free freer back backer : List ℕ) → Changes (Hears ks k) RunsOut free freer → Changes (Hears ks k) RisesByOne back backer → FillsUp (IsListenerOf ks) (kind_place k) free freer back backer
listener_full ks k free freer back backer c e = record {
  here = λ i at. c.here i (at_subscription ks k i at);
  others = λ i o. c.others i (λ h. o (subscription_at ks k i h));
  counts = λ i at. e.here i (at_subscription ks k i at);
  count_others = λ i o. e.others i (λ h. o (subscription_at ks k i h));
}

-- announcing changes nothing else
pub announced_alone : (now later : DriverView) → later ≡ record now { announced = later.announced; free_lines = later.free_lines; announced_back = later.announced_back } → AnnouncesAlone now later
announced_alone now later same = record {
  desk = ap (λ (v : DriverView). v.desk) same;
  taken = ap (λ (v : DriverView). v.taken) same;
  found_none = ap (λ (v : DriverView). v.found_none) same;
  callers = ap caller_rings same;
}

-- looking at a ring changes less
pub looked_alone : (now later : DriverView) → later ≡ record now { free_lines = later.free_lines; announced_back = later.announced_back } → AnnouncesAlone now later
looked_alone now later same = record {
  desk = ap (λ (v : DriverView). v.desk) same;
  taken = ap (λ (v : DriverView). v.taken) same;
  found_none = ap (λ (v : DriverView). v.found_none) same;
  callers = ap caller_rings same;
}

-- ## One after the other

pub record AnnouncesSo (first now : DriverView) (held : List Bool) (waited waits : List Urc) (left : ℕ) (moved : Bool) : Type 0 where
  pub fewer : OneFewer place_of (IsListenerOf first.desk.kinds) (IsHeard first.desk.kinds) (listener_rings first) (listener_rings now) held waited waits left moved
  pub alone : AnnouncesAlone first now

-- before the first all wait to be offered
pub announces_first : (d : DriverView) (held : List Bool) (waited : List Urc) (count : ℕ) → ((n : ℕ) → slice_index_or held n false ≡ false) → count ≡ length waited → AnnouncesSo d d held waited waited (count - 0) false
announces_first d held waited count none e = record {
  fewer = subst (λ (n : ℕ). OneFewer place_of (IsListenerOf d.desk.kinds) (IsHeard d.desk.kinds) (listener_rings d) (listener_rings d) held waited waited n false) (sym e ∙ all) (placing_first place_of (IsListenerOf d.desk.kinds) (IsHeard d.desk.kinds) (listener_rings d) held waited none);
  alone = record { desk = refl; taken = refl; found_none = refl; callers = refl };
}
  where
    all : count ≡ count - 0
    all = omega arith

-- one more was offered, or stays
pub announces_more : (first now later : DriverView) (held more_held : List Bool) (waited waits rest : List Urc) (place end : ℕ) (moved earlier : Bool) → place < end
    → OffersFirst place_of (IsListenerOf now.desk.kinds) (IsHeard now.desk.kinds) (listener_rings now) (listener_rings later) held more_held waits rest moved → AnnouncesAlone now later
    → AnnouncesSo first now held waited waits (end - place) earlier → AnnouncesSo first later more_held waited rest (end - (place + 1)) (earlier || moved)
unfolding OffersFirst
announces_more first now later held more_held waited waits rest place end moved earlier lt offers alone so =
    let one : end - place ≡ (end - (place + 1)) + 1 = omega arith in
    let before = subst (λ (n : ℕ). OneFewer place_of (IsListenerOf first.desk.kinds) (IsHeard first.desk.kinds) (listener_rings first) (listener_rings now) held waited waits n earlier) one so.fewer in
    let here = subst (λ (k : DeskId). OneFewer place_of (IsListenerOf k.kinds) (IsHeard k.kinds) (listener_rings first) (listener_rings now) held waited waits (end - (place + 1) + 1) earlier) (sym so.alone.desk) before in
    record {
      fewer =
          subst (λ (m : Bool). OneFewer place_of (IsListenerOf first.desk.kinds) (IsHeard first.desk.kinds) (listener_rings first) (listener_rings later) more_held waited rest (end - (place + 1)) m) (either moved earlier)
          (subst (λ (k : DeskId). OneFewer place_of (IsListenerOf k.kinds) (IsHeard k.kinds) (listener_rings first) (listener_rings later) more_held waited rest (end - (place + 1)) (moved || earlier)) so.alone.desk (offers (listener_rings first) waited (end - (place + 1)) earlier here));
      alone = record {
        desk = alone.desk ∙ so.alone.desk;
        taken = alone.taken ∙ so.alone.taken;
        found_none = alone.found_none ∙ so.alone.found_none;
        callers = alone.callers ∙ so.alone.callers;
      };
    }

-- behind the last all are placed that may be
pub announces_last : (first now : DriverView) (held : List Bool) (waited waits : List Urc) (left : ℕ) (moved : Bool) → left ≡ 0 → AnnouncesSo first now held waited waits left moved
    → Placed place_of (IsListenerOf first.desk.kinds) (IsHeard first.desk.kinds) (listener_rings first) (listener_rings now) waited waits moved
announces_last first now held waited waits left moved none so =
    placed_last place_of (IsListenerOf first.desk.kinds) (IsHeard first.desk.kinds) (listener_rings first) (listener_rings now) held waited waits moved
    (subst (λ (n : ℕ). OneFewer place_of (IsListenerOf first.desk.kinds) (IsHeard first.desk.kinds) (listener_rings first) (listener_rings now) held waited waits n moved) none so.fewer)

-- where none waits there is nothing to be done
pub announces_none : (d : DriverView) (waited : List Urc) → waited ≡ [] → Placed place_of (IsListenerOf d.desk.kinds) (IsHeard d.desk.kinds) (listener_rings d) (listener_rings d) waited waited false
announces_none d waited none =
    announces_last d d (replicate 263 false) waited waited (0 - 0) false refl (announces_first d (replicate 263 false) waited 0 (none_held 263) (sym (ap (length {A = Urc}) none)))

-- and where those that are left needn't be offered
pub announces_early : (first now : DriverView) (held : List Bool) (waited waits turned : List Urc) (left : ℕ) (moved : Bool) → AnnouncesSo first now held waited waits left moved → LeavesAll now.desk.kinds held waits
    → turned ≡ drop left waits ++ take left waits → Placed place_of (IsListenerOf first.desk.kinds) (IsHeard first.desk.kinds) (listener_rings first) (listener_rings now) waited turned moved
announces_early first now held waited waits turned left moved so leaves is =
    placed_early place_of (IsListenerOf first.desk.kinds) (IsHeard first.desk.kinds) (listener_rings first) (listener_rings now) held waited waits turned left moved so.fewer
    (λ n heard free.
    let known : Contains now.desk.kinds heard.kind = subst (λ (k : DeskId). Contains k.kinds heard.kind) (sym so.alone.desk) heard.listened in
    subst (λ (m : ℕ). of_key place_of m waits ≡ []) heard.is_place
    (leaves heard.kind known (subst (λ (m : ℕ). slice_index_or held m false ≡ false) (sym heard.is_place) free)))
    is
