-- One more is another than those before it.
use Rattle.std.proofs.Common.{rules, arith, ◌≡◌, ◌<◌, ◌==◌, ℕ, false, get_or}
use Rattle.modem_data.specs.PipeSets.{numbers}
use Rattle.modem_data.proofs.Named.{apart_so_far}
use Rattle.modem_data.proofs.pipe_set.are_apart.Goals as goal

pub loop-place-preserved : goal.loop-place-preserved
loop-place-preserved c =
    let test = c.loop-place-test.true in
    let other : (j x : ℕ) → j < c.loop-place.place → get_or (numbers c.args.named.now) j x == (get_or c.args.named.now c.loop-place.place c.index-named-place.result).number ≡ false = search rules in
    record {
      few = omega (arith, test);
      none = apart_so_far c.args.named.now c.loop-place.place c.index-named-place.result test other c.loop-place.invariant.none;
    }
