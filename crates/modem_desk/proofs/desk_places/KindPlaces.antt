-- Kinds of line in a list.
use Rattle.std.proofs.Common.{◌≡◌, ◌↔◌, ℕ, zero, suc, ◌<◌, Bool, true, false, true≢false, List, [], ◌∷◌, ◌++◌, length, take, get_or, sym, refl, ap, ◌∙◌, subst, ⊎_elim, arith}
use Rattle.std.proofs.lemmas.List.{get_or-take, length-take}
use Rattle.std.specs.Prelude.{IsTrue, Contains}
use Rattle.std.specs.List.{IsAnyAnswer}
use mathlib.Core.Option.{some, some-injective, some-ne-none}
use lib.ListN.{get_elem?}
use Rattle.at_text.specs.declared.unsolicited.UrcKind.{UrcKind}
use Rattle.at_text.specs.Kinds.{is_same_kind}
use Rattle.at_text.proofs.SameKinds.{same_place, same_itself}
use Rattle.modem_desk.specs.Ends.{EachOnce, Appends, Changes, Announces, Hears}
use Rattle.modem_desk.specs.declared.request.Urc.{Urc}
use Rattle.modem_desk.proofs.queue_rule.CallerPasses.{at_end}

-- kinds that compare the same are equal
pub same_kind : (a b : UrcKind) → is_same_kind a b ≡ true → a ≡ b
same_kind a b e = same_place a b e

-- a search among kinds says whether the kind is there
pub found : (ks : List UrcKind) (k : UrcKind) (r : Bool) → IsAnyAnswer (λ y b. is_same_kind y k ≡ b) ks r → IsTrue r ↔ Contains ks k
found ks k true h = ((λ _. (h.0, h.1, same_kind (get_or ks h.0 k) k (h.2 k))), λ _. refl)
found ks k false h = (
  (λ no. absurd (true≢false (sym no))),
  (λ c. absurd (true≢false (sym (ap (λ (m : UrcKind). is_same_kind m k) c.2 ∙ same_itself k) ∙ h c.0 k (omega arith) c.1))),
)

module _ {A : Type 0} where
  -- the element at an index, in both spellings
  pub elem_at : (l : List A) (i : ℕ) (a d : A) → i < length l → get_or l i d ≡ a → get_elem? l i ≡ some a
  elem_at [] i a d lt e = absurd (omega arith)
  elem_at (x ∷ l) zero a d lt e = ap some e
  elem_at (x ∷ l) (suc i) a d lt e = elem_at l i a d (omega arith) e

  -- an element that is found at an index stands there, and the index is below the length
  pub or_at : (l : List A) (i : ℕ) (a d : A) → get_elem? l i ≡ some a → (i < length l) × (get_or l i d ≡ a)
  or_at [] i a d e = absurd (some-ne-none a (sym e))
  or_at (x ∷ l) zero a d e = (omega arith, some-injective x a e)
  or_at (x ∷ l) (suc i) a d e = let r = or_at l i a d e in let lt : i < length l = r.0 in (omega arith, r.1)

-- a kind that is found at an index is in the list
pub contains_at : (ks : List UrcKind) (i : ℕ) (k : UrcKind) → get_elem? ks i ≡ some k → Contains ks k
contains_at ks i k e = let r = or_at ks i k k e in (i, r.0, r.1)

-- a kind that stands once stands at one place
pub one_place : (ks : List UrcKind) (i j : ℕ) (k : UrcKind) → EachOnce ks → get_elem? ks i ≡ some k → get_elem? ks j ≡ some k → i ≡ j
one_place [] i j k once p q = absurd (some-ne-none k (sym p))
one_place (x ∷ ks) zero zero k once p q = refl
one_place (x ∷ ks) zero (suc j) k once p q = let r = or_at ks j k x q in let e : x ≡ k = some-injective x k p in absurd (once.0 (j, r.0, r.1 ∙ sym e))
one_place (x ∷ ks) (suc i) zero k once p q = let r = or_at ks i k x p in let e : x ≡ k = some-injective x k q in absurd (once.0 (i, r.0, r.1 ∙ sym e))
one_place (x ∷ ks) (suc i) (suc j) k once p q = ap suc (one_place ks i j k once.1 p q)

-- one kind more that isn't there yet
pub once_more : (ks : List UrcKind) (k : UrcKind) → EachOnce ks → ¬ Contains ks k → EachOnce (ks ++ k ∷ [])
once_more [] k once new = ((λ c. absurd (let lt : c.0 < 0 = c.1 in omega arith)), tt)
once_more (x ∷ ks) k once new = (
  (λ c.
      ⊎_elim
      (λ (q : get_elem? ks c.0 ≡ some x). let r = or_at ks c.0 x x q in once.0 (c.0, r.0, r.1))
      (λ (q : (c.0 ≡ length ks) × (k ≡ x)). new (0, omega arith, sym q.1))
      (at_end ks k x c.0 (elem_at (ks ++ k ∷ []) c.0 x x c.1 c.2))),
  once_more ks k once.1 (λ c. let lt : c.0 < length ks = c.1 in new (suc c.0, omega arith, c.2)),
)

-- a kind isn't among those before it
pub not_before : (ks : List UrcKind) (i : ℕ) (d : UrcKind) → EachOnce ks → i < length ks → ¬ Contains (take i ks) (get_or ks i d)
not_before ks i d once lt c =
    let within : c.0 < length (take i ks) = c.1 in
    let e = length-take i ks in
    let below : c.0 < i = omega arith in
    let short : c.0 < length ks = omega arith in
    let here : get_or ks c.0 (get_or ks i d) ≡ get_or ks i d = sym (get_or-take i ks c.0 (get_or ks i d) below) ∙ c.2 in
    let same : c.0 ≡ i = one_place ks c.0 i (get_or ks i d) once (elem_at ks c.0 (get_or ks i d) (get_or ks i d) short here) (elem_at ks i (get_or ks i d) d lt refl) in
    absurd (omega arith)

-- what was added at the place of the line's kind was added for that kind
pub announces : (kinds : List UrcKind) (i : ℕ) (line : Urc) (old new : List (List Urc)) → EachOnce kinds → get_elem? kinds i ≡ some line.kind → Appends i line old new → Announces kinds line old new
announces kinds i line old new once at more =
    record {
      here = λ k same. subst (λ (j : ℕ). get_or new j [] ≡ get_or old j [] ++ line ∷ []) (one_place kinds i k line.kind once at same) more.here;
      others = λ k apart. more.others k (λ e. apart (ap (λ j. get_elem? kinds j) e ∙ at));
    }

-- a change at one place, said of what holds at that place alone
pub changes_where : (at : ℕ → Type 0) (how : ℕ → ℕ → Type 0) (i : ℕ) (old new : List ℕ) → ((k : ℕ) → at k → k ≡ i) → at i → Changes (λ k. k ≡ i) how old new → Changes at how old new
changes_where at how i old new one here c = record { here = λ k a. c.here k (one k a); others = λ k apart. c.others k (λ e. apart (subst at (sym e) here)) }

-- where nobody listens to a kind, nothing of its listeners changes
pub none_changes : (kinds : List UrcKind) (kind : UrcKind) (how : ℕ → ℕ → Type 0) (old : List ℕ) → ¬ Contains kinds kind → Changes (Hears kinds kind) how old old
none_changes kinds kind how old none = record { here = λ k at. absurd (none (contains_at kinds k kind at)); others = λ k apart. refl }
