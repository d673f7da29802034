-- One more is another.
use Rattle.std.proofs.Common.{rules, arith, ◌≡◌, ◌==◌, false, get_or}
use Rattle.modem_data.proofs.Named.{not_so_far}
use Rattle.modem_data.proofs.pipe_set.is_among.Goals as goal

pub loop-place-preserved : goal.loop-place-preserved
loop-place-preserved c =
    let test = c.loop-place-test.true in
    let other : (get_or c.args.named.now c.loop-place.place c.index-named-place.result).number == c.args.number ≡ false = search rules in
    record {
      few = omega (arith, test);
      none = not_so_far c.args.named.now c.loop-place.place c.args.number c.index-named-place.result (let few = c.requires in omega (arith, test, few)) other c.loop-place.invariant.none;
    }
