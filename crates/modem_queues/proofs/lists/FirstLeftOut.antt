-- The first request that passes a test is left out.
use Rattle.std.specs.Prelude.{◌≡◌, ℕ, suc, ◌+◌, Bool, true, false, List, [], ◌∷◌, find, refl, if◌then◌else◌, Some, None, position, remove, slice_index_or}
use Rattle.std.specs.List.{position_from}
use Rattle.std.proofs.lemmas.Iterator.Adapters.{position_from-zero}
use Rattle.std.proofs.Common.{ap, sym, ◌∙◌, arith}
use Rattle.modem_desk.specs.declared.request.Request.{Request}
use Rattle.modem_history.specs.Requests.{without_first}

-- where none is found, none is left out
pub without_none : (test : Request → Bool) (qs : List Request) → find test qs ≡ None → without_first test qs ≡ qs
without_none test [] h = refl
without_none test (q ∷ qs) h = by_test (test q) h (without_none test qs)
  where
    by_test : (b : Bool) → (if b then Some q else find test qs) ≡ None → (find test qs ≡ None → without_first test qs ≡ qs) → (if b then qs else q ∷ without_first test qs) ≡ q ∷ qs
    by_test true h f = cc
    by_test false h f = ap (λ (v : List Request). q ∷ v) (f h)

-- the place of the first that passes
record At (test : Request → Bool) (qs : List Request) (k i : ℕ) : Type 0 where
  place : ℕ
  is : i ≡ k + place
  left : remove qs place ≡ without_first test qs
  found : (d : Request) → find test qs ≡ Some (slice_index_or qs place d)

at_first : (test : Request → Bool) (qs : List Request) (k i : ℕ) → position_from test k qs ≡ Some i → At test qs k i
at_first test [] k i h = cc
at_first test (q ∷ qs) k i h = by_test (test q) refl h (at_first test qs (k + 1) i)
  where
    by_test : (b : Bool) → test q ≡ b → (if b then Some k else position_from test (k + 1) qs) ≡ Some i → (position_from test (k + 1) qs ≡ Some i → At test qs (k + 1) i) → At test (q ∷ qs) k i
    by_test true e h f =
        let same : k ≡ i = cc in
        record {
          place = 0;
          is = omega (arith, same);
          left = ap (λ (b : Bool). if b then qs else q ∷ without_first test qs) (sym e);
          found = λ d. ap (λ (b : Bool). if b then Some q else find test qs) e;
        }
    by_test false e h f =
        let a = f h in
        record {
          place = suc a.place;
          is = omega (arith, a.is);
          left = ap (λ (v : List Request). q ∷ v) a.left ∙ ap (λ (b : Bool). if b then qs else q ∷ without_first test qs) (sym e);
          found = λ d. ap (λ (b : Bool). if b then Some q else find test qs) e ∙ a.found d;
        }

-- without the request at that place the first that passes is left out
pub left_at : (test : Request → Bool) (qs : List Request) (i : ℕ) → position test qs ≡ Some i → remove qs i ≡ without_first test qs
left_at test qs i h =
    let a = at_first test qs 0 i (sym (position_from-zero test qs) ∙ h) in
    let same : i ≡ a.place = omega (arith, a.is) in
    ap (remove qs) same ∙ a.left

none_from : (test : Request → Bool) (qs : List Request) (k : ℕ) → position_from test k qs ≡ None → find test qs ≡ None
none_from test [] k h = refl
none_from test (q ∷ qs) k h = by_test (test q) h (none_from test qs (k + 1))
  where
    by_test : (b : Bool) → (if b then Some k else position_from test (k + 1) qs) ≡ None → (position_from test (k + 1) qs ≡ None → find test qs ≡ None) → (if b then Some q else find test qs) ≡ None
    by_test true h f = cc
    by_test false h f = f h

-- and where no place is found, none is left out
pub none_left : (test : Request → Bool) (qs : List Request) → position test qs ≡ None → qs ≡ without_first test qs
none_left test qs h = sym (without_none test qs (none_from test qs 0 (sym (position_from-zero test qs) ∙ h)))
