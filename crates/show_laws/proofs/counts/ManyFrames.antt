-- How many frames pass a test.
use Rattle.std.specs.Prelude.{◌≡◌, ℕ, ◌+◌, ◌≤◌, Bool, true, false, List, [], ◌∷◌, ◌++◌, refl, if◌then◌else◌}
use Rattle.std.specs.List.{list_any}
use Rattle.std.proofs.Common.{ap, arith}
use Rattle.std.proofs.lemmas.Bool.{or_from, or_parts}
use Rattle.mux_frame.specs.Frames.{Frame}

-- 1 where it is so, else 0
abbrev pub unit : Bool → ℕ
unit true = 1
unit false = 0

-- how many of these frames pass
abbrev pub many : (Frame → Bool) → List Frame → ℕ
many t [] = 0
many t (f ∷ fs) = unit (t f) + many t fs

-- in two lists they add up
pub many_both : (t : Frame → Bool) (fs gs : List Frame) → many t (fs ++ gs) ≡ many t fs + many t gs
many_both t [] gs = omega arith
many_both t (f ∷ fs) gs = let e = many_both t fs gs in omega (arith, e)

-- of one frame that doesn't pass none does
pub none_one : (t : Frame → Bool) (f : Frame) → t f ≡ false → many t (f ∷ []) ≤ 0
none_one t f h = let e : unit (t f) ≡ 0 = ap unit h in omega (arith, e)

-- what bounds each of two lists bounds the one that is chosen
pub few_if : (t : Frame → Bool) (n : ℕ) (b : Bool) (fs gs : List Frame) → many t fs ≤ n → many t gs ≤ n → many t (if b then fs else gs) ≤ n
few_if t n true fs gs h k = h
few_if t n false fs gs h k = k

-- the bounds of two lists, added up, bound both together
pub few_both : (t : Frame → Bool) (m n : ℕ) (fs gs : List Frame) → many t fs ≤ m → many t gs ≤ n → many t (fs ++ gs) ≤ m + n
few_both t m n fs gs h k = let e = many_both t fs gs in omega (arith, e, h, k)

-- none passes
pub none_many : (t : Frame → Bool) (fs : List Frame) → list_any t fs ≡ false → many t fs ≤ 0
none_many t [] h = omega arith
none_many t (f ∷ fs) h =
    let p = or_parts (t f) (list_any t fs) h in
    let u : unit (t f) ≡ 0 = ap unit p.0 in
    let k = none_many t fs p.1 in
    omega (arith, u, k)

-- where none is counted none passes
pub many_none : (t : Frame → Bool) (fs : List Frame) → many t fs ≤ 0 → list_any t fs ≡ false
many_none t [] h = refl
many_none t (f ∷ fs) h = or_from (t f) (list_any t fs) (off (t f) refl) (many_none t fs (omega (arith, h)))
  where
    off : (b : Bool) → t f ≡ b → b ≡ false
    off false e = refl
    off true e = let u : unit (t f) ≡ 1 = ap unit e in absurd (omega (arith, u, h))

-- where each that passes the first test passes the second, no more pass the first
pub many_fewer : (t u : Frame → Bool) (fs : List Frame) → ((f : Frame) → t f ≡ true → u f ≡ true) → many t fs ≤ many u fs
many_fewer t u [] h = omega arith
many_fewer t u (f ∷ fs) h = let k = many_fewer t u fs h in by_test (t f) refl k
  where
    by_test : (b : Bool) → t f ≡ b → many t fs ≤ many u fs → unit b + many t fs ≤ unit (u f) + many u fs
    by_test false e k = omega (arith, k)
    by_test true e k = let x : unit (u f) ≡ 1 = ap unit (h f e) in omega (arith, x, k)
