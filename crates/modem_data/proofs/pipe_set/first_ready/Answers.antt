-- One more has none to send.
use Rattle.std.proofs.Common.{arith}
use Rattle.modem_data.proofs.PipeSetCalls.{nones_none, nones_more}
use Rattle.std.proofs.Common.{subst}
use Rattle.modem_data.specs.Pipes.{HasNoneToSend}
use Rattle.modem_data.proofs.pipe_set.first_ready.Goals as goal

pub loop-place-init : goal.loop-place-init
loop-place-init c = record { later = omega arith; few = c.requires.order; none = nones_none c.args.pipes.now c.args.from }

pub loop-place-preserved : goal.loop-place-preserved
loop-place-preserved c =
    let test = c.loop-place-test.true in
    let few = c.requires.few in
    let later = c.loop-place.invariant.later in
    record {
      later = omega (arith, later);
      few = omega (arith, test);
      none = nones_more c.args.pipes.now c.args.from c.loop-place.place c.index-pipes-place.result (omega (arith, test, few)) (subst HasNoneToSend c.index-pipes-place.is (c.is_ready.ensures.none c.if-is_ready.false)) c.loop-place.invariant.none;
    }
