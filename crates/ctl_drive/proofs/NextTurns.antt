-- Whose turn it is.
use Rattle.std.specs.Prelude.{◌≡◌, ◌⊎◌, ℕ, ◌+◌, ◌<◌, ◌≤◌, Bool, true, false, List, is_some, length}
use Rattle.std.proofs.Common.{arith, sym, subst, inl, inr, true≢false}
use Rattle.ctl_drive.specs.Asking.{PlanView}
use Rattle.ctl_drive.specs.Turns.{ComesBefore, IsNext, MayRest, NoneWants, one_if, steps_of, wants}
use Rattle.ctl_drive.specs.declared.turns.Want.{Want}
use Rattle.ctl_drive.specs.declared.turns.Want.TheVariants as want
use Rattle.ctl_drive.specs.declared.users.Users.{Users}

module _ (w : Want) (waiting : List (List (List ℕ))) (u : Users) where
  -- none of these connections wants it
  abbrev NoneIn : ℕ → ℕ → Type 0
  NoneIn from to = (e : ℕ) → from ≤ e → e < to → wants w waiting u e ≡ false

  abbrev Found : ℕ → ℕ → ℕ → Type 0
  Found from to d = (wants w waiting u d ≡ true) × ((from ≤ d) × (d < to)) × NoneIn from d

  -- one behind the last
  pub next_behind : (last d : ℕ) → Found (last + 1) 62 d → IsNext w waiting u last d
  next_behind last d h = record { wanted = h.0; none_before = λ e few before. by_case e before }
    where
      by_case : (e : ℕ) → ComesBefore last e d → wants w waiting u e ≡ false
      by_case e (inl x) = let a = x.0 in h.2 e (omega (arith, a)) x.1
      by_case e (inr x) = let a = x.0 in let b = h.1.0 in absurd (omega (arith, a, b))

  -- none is behind it, and one up to it
  pub next_round : (last d : ℕ) → NoneIn (last + 1) 62 → Found 0 (last + 1) d → IsNext w waiting u last d
  next_round last d none h = record { wanted = h.0; none_before = by_case }
    where
      later : (e : ℕ) → e < 62 → (last < e) ⊎ (e < d) → wants w waiting u e ≡ false
      later e few (inl x) = none e (omega (arith, x)) few
      later e few (inr x) = h.2 e (omega arith) x

      by_case : (e : ℕ) → e < 62 → ComesBefore last e d → wants w waiting u e ≡ false
      by_case e few (inl x) = let a = x.0 in let b = x.1 in let c = h.1.1 in absurd (omega (arith, a, b, c))
      by_case e few (inr x) = later e few x.1

  -- where none behind the last wants it, and none up to the last, no connection does
  pub none_round : (last : ℕ) → NoneIn (last + 1) 62 → NoneIn 0 (last + 1) → NoneWants w waiting u
  none_round last behind before e few = search (behind, before, arith)

-- nothing can be asked, of the same plan and users
pub rests_by : (p q : PlanView) (u v : Users) → (q ≡ p) × (v ≡ u) → (p.stopping ≡ true) ⊎ ((is_some u.asked ≡ true) ⊎ NoneWants want.Opening p.waiting u)
    → (15 ≤ length v.under_way.items) ⊎ NoneWants want.Submission q.waiting v → MayRest q v
rests_by p q u v same openings lines = record {
  openings =
      subst (λ (x : PlanView × Users). (x.0.stopping ≡ true) ⊎ ((is_some x.1.asked ≡ true) ⊎ NoneWants want.Opening x.0.waiting x.1)) (λ i. (sym same.0 i, sym same.1 i)) openings;
  lines = lines;
}

-- a step more
pub moved_on : (first step : ℕ) (p q : PlanView) (u : Users) (s t : ℕ) (r a d : Bool) → ((r ≡ false) × (a ≡ false) × (d ≡ true)) ⊎ (((r ≡ false) × (a ≡ true)) ⊎ (r ≡ true))
    → first + step ≤ steps_of p u → q.count ≡ p.count + one_if r → s ≡ steps_of q u + one_if a → t ≡ s + one_if d → first + (step + 1) ≤ t
moved_on first step p q u s t true a d h far read asked done = omega (arith, far, read, asked, done)
moved_on first step p q u s t false true d h far read asked done = omega (arith, far, read, asked, done)
moved_on first step p q u s t false false true h far read asked done = omega (arith, far, read, asked, done)
moved_on first step p q u s t false false false (inl h) far read asked done = absurd (true≢false (sym h.2))
moved_on first step p q u s t false false false (inr (inl h)) far read asked done = absurd (true≢false (sym h.1))
moved_on first step p q u s t false false false (inr (inr h)) far read asked done = absurd (true≢false (sym h))
