-- One number more stands behind those before it.
use Rattle.std.proofs.Common.{arith}
use Rattle.modem_c.proofs.Rooms.{put_number}
use Rattle.modem_c.proofs.ending.put_numbers.Goals as goal

pub loop-place-preserved : goal.loop-place-preserved
loop-place-preserved c =
    let n = c.loop-place.place in
    let some = c.min-count.ensures in
    let here = c.loop-place-test.true in
    put_number n c.args.requests.now c.loop-place.numbers c.args.numbers.now c.index-requests-place.result (omega (arith, some, here)) (omega (arith, some, here)) c.loop-place.invariant
