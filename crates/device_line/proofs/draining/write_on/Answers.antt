-- What is written now comes after what was written before.
use Rattle.std.proofs.Common.{◌≤◌, arith, length}
use Rattle.device_line.proofs.Written.{all_out, goes_on, kept_part, none_left, some_out}
use Rattle.device_line.proofs.draining.write_on.Goals as goal

pub loop-preserved-in-Ok : goal.loop-preserved-in-Ok
loop-preserved-in-Ok g c = record {
  iterator = (tt, tt);
  part = goes_on c.args.octets.now c.loop.rest.now c.in-Ok.count _ _ _ c.loop.invariant.part c.in-Ok.ensures.bytes;
}

pub returns-then-is_empty-clause-written : goal.returns-then-is_empty-clause-written
returns-then-is_empty-clause-written g c none =
    let few : length c.loop.rest.now ≤ 0 = grind (arith, c.is_empty.ensures, c.if-is_empty.true) in
    all_out c.args.octets.now c.loop.rest.now _ _ c.loop.invariant.part (none_left c.loop.rest.now few)

pub returns-then-is_empty-clause-first : goal.returns-then-is_empty-clause-first
returns-then-is_empty-clause-first g c = some_out _ c.loop.rest.now _ _ c.loop.invariant.part

pub returns-then-is_over-clause-written : goal.returns-then-is_over-clause-written
returns-then-is_over-clause-written g c none = absurd (cc)

pub returns-then-is_over-clause-first : goal.returns-then-is_over-clause-first
returns-then-is_over-clause-first g c = some_out _ c.loop.rest.now _ _ c.loop.invariant.part

pub returns-in-Ok-eq0-clause-written : goal.returns-in-Ok-eq0-clause-written
returns-in-Ok-eq0-clause-written g c none = absurd (cc)

pub returns-in-Err-2-clause-written : goal.returns-in-Err-2-clause-written
returns-in-Err-2-clause-written g c none = absurd (cc)

pub returns-in-Ok-eq0-clause-first : goal.returns-in-Ok-eq0-clause-first
returns-in-Ok-eq0-clause-first g c =
    let wrote = rw c.in-Ok-eq0.is at c.write.ensures.bytes in
    some_out c.args.octets.now _ _ _ (goes_on c.args.octets.now c.loop.rest.now c.in-Ok-eq0.field-0 _ _ _ c.loop.invariant.part wrote)

pub returns-in-Err-2-clause-first : goal.returns-in-Err-2-clause-first
returns-in-Err-2-clause-first g c = some_out c.args.octets.now c.loop.rest.now _ _ (kept_part c.args.octets.now c.loop.rest.now _ _ _ c.loop.invariant.part c.in-Err-2.ensures.bytes)
