-- What was read and put in flows in; a read that gives nothing lets nothing flow.
use Rattle.std.proofs.Common.{◌≤◌, arith, length, length-take, refl, take}
use Rattle.device_line.proofs.Written.{empty_in, kept_in, piece_in}
use Rattle.device_line.proofs.pumping.turn.Goals as goal

pub returns-in-Ok-eq0-clause-flows : goal.returns-in-Ok-eq0-clause-flows
returns-in-Ok-eq0-clause-flows g c _ =
    let read = rw c.in-Ok-eq0.is at c.read.ensures.bytes in
    empty_in 0 _ _ _ (rw c.in-Ok-eq0.field-0-test at read.0)

pub returns-in-Ok-eq0-clause-stopped : goal.returns-in-Ok-eq0-clause-stopped
returns-in-Ok-eq0-clause-stopped g c _ =
    let read = rw c.in-Ok-eq0.is at c.read.ensures.bytes in
    empty_in 512 _ _ _ (rw c.in-Ok-eq0.field-0-test at read.0)

pub returns-then-put-clause-flows : goal.returns-then-put-clause-flows
returns-then-put-clause-flows g c _ =
    let put = c.put.ensures.put c.if-put.true in
    piece_in 0 0 _ _ (take c.in-Ok.count c.read.new.buf) _ _ put c.in-Ok.ensures.bytes.0 (omega arith)

pub returns-then-put-clause-stopped : goal.returns-then-put-clause-stopped
returns-then-put-clause-stopped g c stopped = absurd (cc)

pub returns-else-put-clause-flows : goal.returns-else-put-clause-flows
returns-else-put-clause-flows g c other = absurd (other refl)

pub returns-else-put-clause-stopped : goal.returns-else-put-clause-stopped
returns-else-put-clause-stopped g c _ =
    let few : length (take c.in-Ok.count c.read.new.buf) ≤ 512 = grind (arith, length-take) in
    piece_in 512 _ _ _ (take c.in-Ok.count c.read.new.buf) _ _ c.put.ensures.first c.in-Ok.ensures.bytes.0 few

pub returns-in-Err-clause-flows : goal.returns-in-Err-clause-flows
returns-in-Err-clause-flows g c _ = kept_in 0 _ _ _ c.in-Err.ensures.bytes

pub returns-in-Err-clause-stopped : goal.returns-in-Err-clause-stopped
returns-in-Err-clause-stopped g c stopped = absurd (cc)

pub returns-in-Err-2-clause-flows : goal.returns-in-Err-2-clause-flows
returns-in-Err-2-clause-flows g c _ = kept_in 0 _ _ _ c.in-Err-2.ensures.bytes

pub returns-in-Err-2-clause-stopped : goal.returns-in-Err-2-clause-stopped
returns-in-Err-2-clause-stopped g c stopped = absurd (cc)
