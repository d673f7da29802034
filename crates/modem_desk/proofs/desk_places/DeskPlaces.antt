-- Places at a desk.
use Rattle.std.proofs.Common.{◌≡◌, ℕ, zero, suc, ◌<◌, List, [], ◌∷◌, ◌++◌, length, map, sym, refl, ap, ◌∙◌, subst, ⊎_elim, arith}
use mathlib.Core.Option.{some, some-injective, some-ne-none}
use lib.ListN.{get_elem?}
use Rattle.crossbeam_queue.proofs.Lists.{at_longer, at_last, at_map}
use Rattle.at_text.specs.declared.unsolicited.UrcKind.{UrcKind}
use Rattle.modem_desk.specs.Ends.{CallerView, ListenerView, DeskId, Place, Subscription, place_of, subscription_of, IsAt, IsSubscribed, IsFresh, AreNewCallers, AreNewListeners, IsWhole, AreSubscribed}
use Rattle.modem_desk.specs.Settling.{AreWhole, AreListenersAt}
use Rattle.modem_desk.proofs.queue_rule.CallerPasses.{at_end}

-- one caller more
pub new_callers_more : (d e : DeskId) (first : ℕ) (cs : List CallerView) (c : CallerView) → AreNewCallers d first cs
    → e ≡ record d { rings = d.rings ++ c.place.ring ∷ [] }
    → length d.rings ≡ length cs → c.place.queue ≡ d.queue → c.place.number ≡ length cs → c.place.first ≡ first → IsFresh c
    → AreNewCallers e first (cs ++ c ∷ [])
new_callers_more d e first cs c new_callers is long queue number begins fresh i a at =
    let P = λ (f : DeskId). IsAt f a.place × (a.place.number ≡ i) × (a.place.first ≡ first) × IsFresh a in
    subst P (sym is) (⊎_elim
    (λ (x : get_elem? cs i ≡ some a).
    let o = new_callers i a x in
    ((o.0.0, at_longer d.rings (c.place.ring ∷ []) a.place.number a.place.ring o.0.1), o.1, o.2, o.3))
    (λ (x : (i ≡ length cs) × (c ≡ a)).
    subst (λ (y : ℕ × CallerView). IsAt (record d { rings = d.rings ++ c.place.ring ∷ [] }) y.1.place × (y.1.place.number ≡ y.0) × (y.1.place.first ≡ first) × IsFresh y.1)
    (λ k. (sym x.0 k, x.1 k))
    ((queue, at_last d.rings (c.place.ring) c.place.number (long ∙ sym number)), number, begins, fresh))
    (at_end cs c a i at))

-- one listener more
pub new_listeners_more : (d e : DeskId) (ls : List ListenerView) (l : ListenerView) (kind : UrcKind) → AreNewListeners d ls
    → e ≡ record d { kinds = d.kinds ++ kind ∷ []; line_rings = d.line_rings ++ l.subscription.ring ∷ [] }
    → length d.kinds ≡ length ls → length d.line_rings ≡ length ls → l.subscription.place ≡ length ls → l.subscription.kind ≡ kind → l.heard ≡ [] → l.seen ≡ []
    → AreNewListeners e (ls ++ l ∷ [])
new_listeners_more d e ls l kind new_listeners is long line_rings place same fresh unseen i a at =
    let P = λ (f : DeskId). IsSubscribed f a.subscription × (a.subscription.place ≡ i) × (a.heard ≡ []) × (a.seen ≡ []) in
    subst P (sym is) (⊎_elim
    (λ (x : get_elem? ls i ≡ some a).
    let o = new_listeners i a x in
    ((at_longer d.kinds (kind ∷ []) a.subscription.place a.subscription.kind o.0.0, at_longer d.line_rings (l.subscription.ring ∷ []) a.subscription.place a.subscription.ring o.0.1), o.1, o.2, o.3))
    (λ (x : (i ≡ length ls) × (l ≡ a)).
    subst (λ (y : ℕ × ListenerView). IsSubscribed (record d { kinds = d.kinds ++ kind ∷ []; line_rings = d.line_rings ++ l.subscription.ring ∷ [] }) y.1.subscription × (y.1.subscription.place ≡ y.0) × (y.1.heard ≡ []) × (y.1.seen ≡ []))
    (λ k. (sym x.0 k, x.1 k))
    ((at_last d.kinds kind l.subscription.place (long ∙ sym place) ∙ ap some (sym same), at_last d.line_rings (l.subscription.ring) l.subscription.place (line_rings ∙ sym place)), place, fresh, unseen))
    (at_end ls l a i at))

-- the same queue and rings: the callers' places stay
pub new_callers_on : (d e : DeskId) (first : ℕ) (cs : List CallerView) → e.queue ≡ d.queue → e.rings ≡ d.rings → AreNewCallers d first cs → AreNewCallers e first cs
new_callers_on d e first cs queue rings new_callers i a at =
    let o = new_callers i a at in
    ((o.0.0 ∙ sym queue, ap (λ l. get_elem? l a.place.number) rings ∙ o.0.1), o.1, o.2, o.3)

module _ {A B : Type 0} where
  -- the element behind one of a map
  pub map_at : (f : A → B) (l : List A) (i : ℕ) (b : B) → get_elem? (map f l) i ≡ some b → (a : A) × (get_elem? l i ≡ some a) × (f a ≡ b)
  map_at f [] i b e = absurd (some-ne-none b (sym e))
  map_at f (x ∷ xs) zero b e = (x, refl, some-injective (f x) b e)
  map_at f (x ∷ xs) (suc i) b e = map_at f xs i b e

-- the element at an index below the length
pub some_at : {A : Type 0} (l : List A) (i : ℕ) → i < length l → (a : A) × (get_elem? l i ≡ some a)
some_at {A} [] i lt = absurd (omega arith)
some_at {A} (x ∷ xs) zero lt = (x, refl)
some_at {A} (x ∷ xs) (suc i) lt = some_at xs i (omega arith)

-- a desk as it was opened is whole
pub new_callers_whole : (d : DeskId) (first : ℕ) (cs : List CallerView) → length d.rings ≡ length cs → AreNewCallers d first cs → IsWhole d (map place_of cs)
new_callers_whole d first cs long new_callers = (
  (λ i p at. let m = map_at place_of cs i p at in subst (λ (q : Place). IsAt d q) m.2 (new_callers i m.0 m.1).0),
  (λ k lt.
      let c = some_at cs k (subst (λ m. k < m) long lt) in
      (k, c.0.place, at_map place_of cs k c.0 c.1, (new_callers k c.0 c.1).1)),
)

-- and its listeners are subscribed there
pub new_subscriptions : (d : DeskId) (ls : List ListenerView) → AreNewListeners d ls → AreSubscribed d (map subscription_of ls)
new_subscriptions d ls new_listeners i e at = let m = map_at subscription_of ls i e at in subst (λ (q : Subscription). IsSubscribed d q) m.2 (new_listeners i m.0 m.1).0

-- places of the callers themselves
pub are_whole : (d : DeskId) (n : ℕ) (cs : List CallerView) → n ≡ length d.rings → IsWhole d (map place_of cs) → AreWhole d n cs
are_whole d n cs e whole = (
  (λ i c at. whole.0 i c.place (at_map place_of cs i c at)),
  (λ k lt.
      let w = whole.1 k (subst (λ m. k < m) e lt) in
      let m = map_at place_of cs w.0 w.1 w.2 in
      (w.0, m.0, m.1, ap (λ (p : Place). p.number) m.2 ∙ w.3)),
)

-- places of the listeners themselves
pub are_listeners_at : (d : DeskId) (ls : List ListenerView) → AreSubscribed d (map subscription_of ls) → AreListenersAt d ls
are_listeners_at d ls subscribed i l at = subscribed i l.subscription (at_map subscription_of ls i l at)
