-- What listeners and the caller are asked for, and what none of them has.
use Rattle.std.specs.Prelude.{◌≡◌, ◌≢◌, ◌<◌, ◌≤◌, ◌+◌, ◌||◌, ℕ, zero, suc, Bool, true, false, List, [], ◌∷◌, ◌++◌, Option, None, Some, get_or, is_some, length, set, refl}
use Rattle.std.proofs.Common.{ap, arith, sym, subst, ◌∙◌, inl, inr, ◌⊎◌, true≢false}
use Rattle.std.proofs.lemmas.List.{get_or-set_same, get_or-set_other, length-append}
use Rattle.modem_desk.specs.declared.request.Outcome.{Outcome}
use Rattle.modem_desk.specs.declared.request.Urc.{Urc}
use Rattle.modem_desk.specs.Ends.{CallerView, ListenerView}
use Rattle.ctl_drive.specs.Showing.{HeardMore, KnowNone, LooksAt, LooksForOutcome, LooksThrough, listener_at}
use Rattle.ctl_drive.specs.declared.users.Users.{Users}

-- a list with one more is longer by one
one_longer : {A : Type 0} (xs : List A) (x : A) → length (xs ++ x ∷ []) ≡ length xs + 1
one_longer xs x = length-append xs (x ∷ [])

-- what isn't there isn't known
pub none_known : {A B : Type 0} (xs : List A) (r : Option B) → r ≡ None → (0 < length xs → is_some r ≡ true) → xs ≡ []
none_known [] r none finds = refl
none_known {A} {B} (x ∷ xs) r none finds = absurd (true≢false (sym (subst (λ (o : Option B). is_some o ≡ true) none (finds (omega arith)))))

at_set : (old new : Users) (place : ℕ) (now l : ListenerView) → place < length old.listeners.items → new.listeners.items ≡ set old.listeners.items place now → listener_at new place l ≡ now
at_set old new place now l few are = ap (λ (ls : List ListenerView). get_or ls place l) are ∙ get_or-set_same old.listeners.items place now l few

beside_set : (old new : Users) (place i : ℕ) (now l : ListenerView) → new.listeners.items ≡ set old.listeners.items place now → i ≢ place → listener_at new i l ≡ listener_at old i l
beside_set old new place i now l are other = ap (λ (ls : List ListenerView). get_or ls i l) are ∙ get_or-set_other old.listeners.items place i now l other

-- whatever stands for what isn't there
any_default : (ls : List ListenerView) (i : ℕ) (a b : ListenerView) → i < length ls → get_or ls i a ≡ get_or ls i b
any_default [] i a b few = absurd (omega (arith, few))
any_default (x ∷ ls) zero a b few = refl
any_default (x ∷ ls) (suc i) a b few = any_default ls i a b (omega (arith, few))

-- the listener at this place took a line
pub looks_some : (old new : Users) (place : ℕ) (was now : ListenerView) (u : Urc) → place < length old.listeners.items → was ≡ get_or old.listeners.items place was
    → new.listeners.items ≡ set old.listeners.items place now → now.heard ≡ was.heard ++ u ∷ [] → new.caller ≡ old.caller → LooksAt old new place true
looks_some old new place was now u few was_is are heard caller = record {
  some = λ is l.
      ap (λ (m : ListenerView). length m.heard) (at_set old new place now l few are) ∙ ap (length {A = Urc}) heard ∙ one_longer was.heard u
      ∙ ap (λ (m : ListenerView). length m.heard + 1) (was_is ∙ any_default old.listeners.items place was l few);
  none = λ is. absurd (true≢false is);
  kept = λ is. absurd (true≢false is);
  others = λ i l other. beside_set old new place i now l are other;
  caller = caller;
}

-- it took none, since it knew of none
pub looks_none : (old new : Users) (place : ℕ) (was now : ListenerView) → place < length old.listeners.items → was ≡ get_or old.listeners.items place was
    → new.listeners.items ≡ set old.listeners.items place now → now.heard ≡ was.heard → was.seen ≡ [] → now.seen ≡ [] → new.caller ≡ old.caller → LooksAt old new place false
looks_none old new place was now few was_is are heard before after caller = record {
  some = λ is. absurd (true≢false (sym is));
  none = λ is l. (
    ap (λ (m : ListenerView). m.seen) (sym (was_is ∙ any_default old.listeners.items place was l few)) ∙ before,
    ap (λ (m : ListenerView). m.seen) (at_set old new place now l few are) ∙ after,
  );
  kept = λ is l.
      ap (λ (m : ListenerView). m.heard) (at_set old new place now l few are) ∙ heard ∙ ap (λ (m : ListenerView). m.heard) (was_is ∙ any_default old.listeners.items place was l few);
  others = λ i l other. beside_set old new place i now l are other;
  caller = caller;
}

-- nobody was asked yet
pub through_none : (u : Users) → LooksThrough u u 0 false
through_none u = record { some = λ is. absurd (true≢false (sym is)); none = λ is i l few. absurd (omega (arith, few)); others = λ i l few. refl; caller = refl }

same_or_not : (i j : ℕ) → (i ≡ j) ⊎ (i ≢ j)
same_or_not zero zero = inl refl
same_or_not zero (suc j) = inr (λ e. absurd (omega (arith, e)))
same_or_not (suc i) zero = inr (λ e. absurd (omega (arith, e)))
same_or_not (suc i) (suc j) = by_case (same_or_not i j)
  where
    by_case : (i ≡ j) ⊎ (i ≢ j) → (suc i ≡ suc j) ⊎ (suc i ≢ suc j)
    by_case (inl e) = inl (ap suc e)
    by_case (inr n) = inr (λ e. n (omega (arith, e)))

module _ (old mid new : Users) (place : ℕ) where
  still_more : (took : Bool) → LooksAt mid new place took → HeardMore old mid → HeardMore old new
  still_more took h m = record { at = m.at; more = λ l. by_case l (same_or_not m.at place) took refl }
    where
      by_case : (l : ListenerView) → (m.at ≡ place) ⊎ (m.at ≢ place) → (b : Bool) → took ≡ b → length (listener_at old m.at l).heard < length (listener_at new m.at l).heard
      by_case l (inr n) b is = subst (λ (x : ListenerView). length (listener_at old m.at l).heard < length x.heard) (sym (h.others m.at l n)) (m.more l)
      by_case l (inl e) false is =
          let same : length (listener_at new m.at l).heard ≡ length (listener_at mid m.at l).heard =
          subst (λ (p : ℕ). length (listener_at new p l).heard ≡ length (listener_at mid p l).heard) (sym e) (ap (length {A = Urc}) (h.kept is l)) in
          let more = m.more l in omega (arith, same, more)
      by_case l (inl e) true is =
          let longer : length (listener_at new m.at l).heard ≡ length (listener_at mid m.at l).heard + 1 =
          subst (λ (p : ℕ). length (listener_at new p l).heard ≡ length (listener_at mid p l).heard + 1) (sym e) (h.some is l) in
          let more = m.more l in omega (arith, longer, more)

  more_here : (any took : Bool) → LooksThrough old mid place any → LooksAt mid new place took → took ≡ true → HeardMore old new
  more_here any took g h is = record {
    at = place;
    more = λ l.
        let longer = h.some is l in
        let same = ap (λ (m : ListenerView). length m.heard) (g.others place l (omega arith)) in
        omega (arith, longer, same);
  }

  -- the next was asked
  pub through_more : (any took : Bool) → LooksThrough old mid place any → LooksAt mid new place took → LooksThrough old new (place + 1) (any || took)
  through_more any took g h = record {
    some = some_by any took refl refl;
    none = none_by any took refl refl;
    others = λ i l few. h.others i l (λ e. absurd (omega (arith, few, e))) ∙ g.others i l (omega (arith, few));
    caller = h.caller ∙ g.caller;
  }
    where
      some_by : (a t : Bool) → any ≡ a → took ≡ t → a || t ≡ true → HeardMore old new
      some_by true t p q is = still_more took h (g.some p)
      some_by false true p q is = more_here any took g h q
      some_by false false p q is = absurd (true≢false (sym is))

      none_by : (a t : Bool) → any ≡ a → took ≡ t → a || t ≡ false → (i : ℕ) (l : ListenerView) → i < place + 1 → ((listener_at old i l).seen ≡ []) × ((listener_at new i l).seen ≡ [])
      none_by true t p q is i l few = absurd (true≢false is)
      none_by false true p q is i l few = absurd (true≢false is)
      none_by false false p q is i l few = here (same_or_not i place)
        where
          here : (i ≡ place) ⊎ (i ≢ place) → ((listener_at old i l).seen ≡ []) × ((listener_at new i l).seen ≡ [])
          here (inl e) =
              subst (λ (n : ℕ). ((listener_at old n l).seen ≡ []) × ((listener_at new n l).seen ≡ [])) (sym e)
              (ap (λ (m : ListenerView). m.seen) (sym (g.others place l (omega arith))) ∙ (h.none q l).0, (h.none q l).1)
          here (inr n) = let before = g.none p i l (omega (arith, few, n)) in (before.0, ap (λ (m : ListenerView). m.seen) (h.others i l n) ∙ before.1)

-- nobody knew of a line, nor did the caller know of an outcome
pub know_none : (u mid new : Users) → LooksThrough u mid (length u.listeners.items) false → LooksForOutcome mid new false → KnowNone u
know_none u mid new lines outcome = record {
  outcomes = ap (λ (c : CallerView). c.seen) (sym lines.caller) ∙ (outcome.none refl).0;
  lines = λ i l few. (lines.none refl i l few).0;
}
