-- None stands in four octets more.
use Rattle.std.proofs.Common.{◌≡◌, ◌-◌, ◌≤◌, take, drop, length, subst, arith}
use Rattle.std.proofs.lemmas.List.{take_all, length-drop}
use Rattle.std.specs.Prelude.{List, ℕ}
use Rattle.at_text.proofs.lines.KeptOctets.{none_joined}
use Rattle.at_text.proofs.reader.fours_len.Goals as goal

pub loop-len-preserved : goal.loop-len-preserved
loop-len-preserved c =
    let all = c.args.octets.now in
    let n = c.loop-len.len in
    let inside = c.loop-len.invariant.within in
    let many = c.starts_with_four.ensures.many c.loop-len-test.true in
    let rest : take (length all - n) (drop n all) ≡ drop n all = take_all (length all - n) (drop n all) (rw length-drop (omega arith)) in
    let few : 4 ≤ length (drop n all) = subst (λ (xs : List ℕ). 4 ≤ length xs) rest many in
    let counted : length (drop n all) ≡ length all - n = length-drop n all in
    record {
      within = omega (arith, few, counted, inside);
      none = none_joined all n 4 inside c.loop-len.invariant.none (c.starts_with_four.ensures.none c.loop-len-test.true);
    }
