use Rattle.std.specs.Prelude.{◌≡◌, ℕ, zero, suc, ◌+◌, List, [], ◌∷◌, drop}
use Rattle.std.proofs.Common.{refl, subst, ap, ◌∙◌, arith}
use Rattle.mux_frame.specs.Reading.{no_flag}
use Rattle.mux_capture.specs.FrontFrames.{PassesOver}
use Rattle.mux_capture.proofs.FirstFrames.{passes_more}
use Rattle.mux_capture.proofs.finding.first_frame.Goals as goal

drop_one : (n : ℕ) (xs : List ℕ) → drop 1 (drop n xs) ≡ drop (suc n) xs
drop_one zero xs = refl
drop_one (suc n) [] = refl
drop_one (suc n) (x ∷ xs) = drop_one n xs

drop_next : (n : ℕ) (xs : List ℕ) → drop 1 (drop n xs) ≡ drop (n + 1) xs
drop_next n xs = let next : suc n ≡ n + 1 = omega arith in drop_one n xs ∙ ap (λ k. drop k xs) next

pub loop-passed-preserved : goal.loop-passed-preserved
loop-passed-preserved c =
    let other = rw c.in-Other.is at c.in_ok-front_of.ensures in
    let inner : PassesOver c.args.n1 (drop c.loop-passed.passed c.args.text.now) (drop 1 (drop c.loop-passed.passed c.args.text.now)) = subst (λ (l : List ℕ). PassesOver c.args.n1 l (drop 1 l)) c.split_at.ensures.back other in
    let test = c.loop-passed-test.true in
    record {
      within = omega (arith, test);
      passes =
          subst (λ (l : List ℕ). PassesOver c.args.n1 c.args.text.now l) (drop_next c.loop-passed.passed c.args.text.now)
          (passes_more c.args.n1 c.args.text.now (drop c.loop-passed.passed c.args.text.now) (drop 1 (drop c.loop-passed.passed c.args.text.now)) c.loop-passed.invariant.passes inner);
      bound = omega arith;
      known = no_flag _ refl;
    }
