-- Which pass has a caller's number, and a caller's requests in a list that grows.
use Rattle.std.proofs.Common.{◌≡◌, ◌≢◌, ℕ, zero, suc, ◌==◌, ◌<◌, ◌⊎◌, cond, eqb, List, [], ◌∷◌, ◌++◌, length, set, Option, sym, refl, ap, ◌∙◌, subst, inl, inr, ⊎_elim, eq-eqb, ne_eqb, arith}
use Rattle.std.proofs.lemmas.List.{append-nil}
use Rattle.std.proofs.lemmas.List.Elements.{filter-append}
use mathlib.Core.Option.{some, some-injective, some-ne-none}
use mathlib.Core.Logic.{dite}
use native.Mathlib.Decide.{ℕ_discrete}
use lib.ListN.{get_elem?}
use Rattle.crossbeam_queue.proofs.Lists.{at_set}
use Rattle.modem_desk.specs.declared.request.Request.{Request}
use Rattle.modem_desk.specs.Rule.{of_caller}

-- the passes with p at n
unfoldable pub with_pass : (ℕ → Option ℕ) → ℕ → Option ℕ → ℕ → Option ℕ
with_pass pass_of n p m = cond (eqb m n) p (pass_of m)

-- at n it is p
pub with_pass-here : (pass_of : ℕ → Option ℕ) (n : ℕ) (p : Option ℕ) → with_pass pass_of n p n ≡ p
unfolding with_pass
with_pass-here pass_of n p = ap (λ b. cond b p (pass_of n)) (eq-eqb n n refl)

-- at any other number it is as before
pub with_pass-else : (pass_of : ℕ → Option ℕ) (n m : ℕ) (p : Option ℕ) → m ≢ n → with_pass pass_of n p m ≡ pass_of m
unfolding with_pass
with_pass-else pass_of n m p apart = ap (λ b. cond b p (pass_of m)) (ne_eqb m n apart)

-- by whether a number is another
pub at_number : {P : Type 0} (m n : ℕ) → (m ≡ n → P) → (m ≢ n → P) → P
at_number m n same other = dite (ℕ_discrete m n) same other

of_one_same : (n : ℕ) (x : Request) → x.caller ≡ n → of_caller n (x ∷ []) ≡ x ∷ []
of_one_same n x e = ap (λ b. cond b (x ∷ []) []) (eq-eqb x.caller n e)

of_one_other : (n : ℕ) (x : Request) → n ≢ x.caller → of_caller n (x ∷ []) ≡ []
of_one_other n x e = ap (λ b. cond b (x ∷ []) []) (ne_eqb x.caller n (λ h. e (sym h)))

-- a request more of this caller is the last of its requests
pub of_more_same : (n : ℕ) (all : List Request) (x : Request) → x.caller ≡ n → of_caller n (all ++ x ∷ []) ≡ of_caller n all ++ x ∷ []
of_more_same n all x e = filter-append (λ r. r.caller == n) all (x ∷ []) ∙ ap (λ l. of_caller n all ++ l) (of_one_same n x e)

-- another's leaves them as they are
pub of_more_other : (n : ℕ) (all : List Request) (x : Request) → n ≢ x.caller → of_caller n (all ++ x ∷ []) ≡ of_caller n all
of_more_other n all x e = filter-append (λ r. r.caller == n) all (x ∷ []) ∙ ap (λ l. of_caller n all ++ l) (of_one_other n x e) ∙ append-nil (of_caller n all)

nonempty : (l m : List Request) (x : Request) → l ++ x ∷ m ≢ []
nonempty [] m x e = cc
nonempty (y ∷ l) m x e = cc

-- where a request stands, its caller has one
pub not_none : (taken items : List Request) (x : Request) → of_caller x.caller (taken ++ x ∷ items) ≢ []
not_none taken items x e =
    let split = filter-append (λ r. r.caller == x.caller) taken (x ∷ items) in
    let one : of_caller x.caller (x ∷ items) ≡ x ∷ of_caller x.caller items = ap (λ b. cond b (x ∷ of_caller x.caller items) (of_caller x.caller items)) (eq-eqb x.caller x.caller refl) in
    nonempty (of_caller x.caller taken) (of_caller x.caller items) x (ap (λ l. of_caller x.caller taken ++ l) (sym one) ∙ sym split ∙ e)

module _ {A : Type 0} where
  -- one element more
  pub at_end : (l : List A) (a b : A) (j : ℕ) → get_elem? (l ++ a ∷ []) j ≡ some b → (get_elem? l j ≡ some b) ⊎ ((j ≡ length l) × (a ≡ b))
  at_end [] a b zero e = inr (refl, some-injective a b e)
  at_end [] a b (suc j) e = absurd (some-ne-none b (sym e))
  at_end (x ∷ xs) a b zero e = inl e
  at_end (x ∷ xs) a b (suc j) e = ⊎_elim inl (λ t. inr (ap suc t.0, t.1)) (at_end xs a b j e)

  -- an index at which an element is found is below the length
  pub below_length : (l : List A) (j : ℕ) (a : A) → get_elem? l j ≡ some a → j < length l
  below_length [] j a e = absurd (some-ne-none a (sym e))
  below_length (x ∷ xs) zero a e = omega arith
  below_length (x ∷ xs) (suc j) a e = let h : j < length xs = below_length xs j a e in omega arith

  -- what holds of the new element and of each other one holds of all
  pub all_set : (F : ℕ → A → Type 0) (l : List A) (i : ℕ) (w : A) → F i w → ((j : ℕ) (u : A) → j ≢ i → get_elem? l j ≡ some u → F j u)
      → (j : ℕ) (u : A) → get_elem? (set l i w) j ≡ some u → F j u
  all_set F l i w mine others j u e = ⊎_elim (λ (x : (j ≡ i) × (w ≡ u)). subst (λ (y : ℕ × A). F y.0 y.1) (λ k. (sym x.0 k, x.1 k)) mine)
      (λ (x : (j ≢ i) × (get_elem? l j ≡ some u)). others j u x.0 x.1) (at_set l i j w u e)
