-- One more is of another connection.
use Rattle.std.proofs.Common.{rules, arith, ◌≡◌, ◌==◌, false, get_or}
use Rattle.modem_data.proofs.PipeSets.{none_so_far, none_of_all}
use Rattle.modem_data.proofs.pipe_set.place_of.Goals as goal

pub loop-place-preserved : goal.loop-place-preserved
loop-place-preserved c =
    let test = c.loop-place-test.true in
    let other : (get_or c.args.pipes.now c.loop-place.place c.index-pipes-place.result).watch.dlci == c.args.dlci.number ≡ false = search rules in
    record {
      few = omega (arith, test);
      none = none_so_far c.args.pipes.now c.loop-place.place c.args.dlci.number c.index-pipes-place.result test other c.loop-place.invariant.none;
    }

pub returns-clause-none : goal.returns-clause-none
returns-clause-none c =
    let end = c.loop-place-test.false in
    λ e. none_of_all c.args.pipes.now c.loop-place.place c.args.dlci.number (omega (arith, end)) c.loop-place.invariant.none
