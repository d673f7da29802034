-- What is put in now comes behind what was put in before.
use Rattle.std.proofs.Common.{◌∙◌, ◌≤◌, arith, length}
use Rattle.rtrb.specs.Ring.{sent}
use Rattle.device_line.proofs.Written.{all_in, goes_in, none_left, some_in}
use Rattle.device_line.proofs.pumping.put.Goals as goal

pub returns-then-is_empty-clause-put : goal.returns-then-is_empty-clause-put
returns-then-is_empty-clause-put g c _ =
    let next = c.push_partial_slice.result.0.now in
    let left = c.push_partial_slice.result.1.now in
    let more = goes_in c.args.octets.now c.loop.rest.now left next (sent c.args.ring.now) (sent c.loop.ring) (sent c.push_partial_slice.new.self)
    c.loop.invariant.put c.push_partial_slice.ensures.parts c.push_partial_slice.ensures.sent in
    let few : length left ≤ 0 = grind (arith, c.is_empty.ensures, c.if-is_empty.true) in
    all_in c.args.octets.now left (sent c.args.ring.now) (sent c.push_partial_slice.new.self) more (none_left left few)

pub returns-then-is_empty-clause-first : goal.returns-then-is_empty-clause-first
returns-then-is_empty-clause-first g c =
    let more = goes_in c.args.octets.now c.loop.rest.now c.push_partial_slice.result.1.now c.push_partial_slice.result.0.now (sent c.args.ring.now) (sent c.loop.ring)
    (sent c.push_partial_slice.new.self) c.loop.invariant.put c.push_partial_slice.ensures.parts c.push_partial_slice.ensures.sent in
    some_in c.args.octets.now c.push_partial_slice.result.1.now (sent c.args.ring.now) (sent c.push_partial_slice.new.self) more

pub returns-then-is_abandoned-clause-put : goal.returns-then-is_abandoned-clause-put
returns-then-is_abandoned-clause-put g c is_all = absurd (cc)

pub returns-then-is_abandoned-clause-first : goal.returns-then-is_abandoned-clause-first
returns-then-is_abandoned-clause-first g c =
    let more = goes_in c.args.octets.now c.loop.rest.now c.push_partial_slice.result.1.now c.push_partial_slice.result.0.now (sent c.args.ring.now) (sent c.loop.ring)
    (sent c.is_abandoned.new.self) c.loop.invariant.put c.push_partial_slice.ensures.parts (c.is_abandoned.ensures.1 ∙ c.push_partial_slice.ensures.sent) in
    some_in c.args.octets.now c.push_partial_slice.result.1.now (sent c.args.ring.now) (sent c.is_abandoned.new.self) more

pub returns-clause-put : goal.returns-clause-put
returns-clause-put g c is_all = absurd (cc)

pub returns-clause-first : goal.returns-clause-first
returns-clause-first g c = some_in _ _ _ _ c.loop.invariant.put
