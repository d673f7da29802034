-- One try behind the other.
use Rattle.std.specs.Prelude.{◌+◌, refl}
use Rattle.std.proofs.Common.{arith, ◌∙◌}
use Rattle.modem_driver.specs.EntryTries.{not_closed, tried_more, tried_none}
use Rattle.modem_driver.proofs.EntryTries.{asks_behind, asks_none, is_no_answer, never_last, no_failure, not_line_of, ok_no_failure, replied_at, replied_last, same_refusal}
use Rattle.modem_driver.proofs.entry_tries.try_thrice.Goals as goal

pub loop-init : goal.loop-init
loop-init g c = record { tried = tried_none; sound = refl; keeps_up = omega arith; asks = asks_none _ _ _; waits = omega arith }

pub loop-preserved : goal.loop-preserved
loop-preserved g c =
    let t = c.in-Err-NoAnswer.ensures in
    let d = c.in-Ok-shut_down.ensures in
    let not_line = no_failure _ c.in-Err-NoAnswer.field-0-is in
    let k0 = c.loop.invariant.keeps_up in
    let k1 = t.keeps_up in
    let k2 = d.keeps_up in
    let r1 = c.renew.ensures.counted in
    let r2 = c.renew-in-loop.ensures.counted in
    let w0 = c.loop.invariant.waits in
    let w1 = c.renew.ensures.waits in
    let w2 = t.waits in
    let w3 = c.renew-in-loop.ensures.waits in
    let w4 = d.waits in
    record {
      tried = tried_more c.loop.counter _ _ _ c.loop.invariant.tried (t.unanswered (is_no_answer _ c.in-Err-NoAnswer.field-0-is)) d.closed;
      sound = d.sound (ok_no_failure c.in-Ok-shut_down.field-0) ∙ (t.sound not_line ∙ c.loop.invariant.sound);
      keeps_up = omega (arith, k0, k1, k2, r1, r2);
      asks =
          asks_behind _ 0 _ _ _ _ _ _ _ _ _ _ _ _ (omega arith) c.renew-in-loop.ensures.counted c.renew-in-loop.ensures.idle
          (asks_behind (c.loop.counter + c.loop.counter) 2 (c.loop.counter + c.loop.counter + 2) _ _ _ _ _ _ _ _ _ _ _ (omega arith) c.renew.ensures.counted c.renew.ensures.idle c.loop.invariant.asks (t.asks not_line))
          (d.asks (ok_no_failure c.in-Ok-shut_down.field-0));
      waits = omega (arith, w0, w1, w2, w3, w4);
    }

pub returns-in-Ok-clause-replied : goal.returns-in-Ok-clause-replied
returns-in-Ok-clause-replied g c =
    let less = c.loop-test.true in
    replied_at _ _ _ _ _ _ _ c.loop.counter (omega (arith, less)) c.loop.invariant.tried c.in-Ok.ensures.tried

pub returns-in-Err-shut_down-clause-never : goal.returns-in-Err-shut_down-clause-never
returns-in-Err-shut_down-clause-never g c is =
    let less = c.loop-test.true in
    not_closed c.loop.counter _ _ (omega (arith, less)) c.loop.invariant.tried (c.in-Err-NoAnswer.ensures.unanswered (is_no_answer _ c.in-Err-NoAnswer.field-0-is)) (c.in-Err-shut_down.ensures.begun (same_refusal _ _ is))

pub returns-clause-replied : goal.returns-clause-replied
returns-clause-replied g c =
    let end = c.loop.auto.counter-end in
    replied_last _ _ _ _ _ _ c.try_once-2.result c.loop.counter (omega (arith, end)) c.loop.invariant.tried c.try_once-2.ensures.tried

pub returns-clause-never : goal.returns-clause-never
returns-clause-never g c is =
    let end = c.loop.auto.counter-end in
    let over = c.loop-test.false in
    never_last _ _ _ _ _ _ c.loop.counter (omega (arith, end, over)) c.loop.invariant.tried (c.try_once-2.ensures.unanswered is)

pub returns-in-Ok-clause-asks : goal.returns-in-Ok-clause-asks
returns-in-Ok-clause-asks g c other =
    let less = c.loop-test.true in
    asks_behind (c.loop.counter + c.loop.counter) 2 6 _ _ _ _ _ _ _ _ _ _ _ (omega (arith, less)) c.renew.ensures.counted c.renew.ensures.idle c.loop.invariant.asks (c.in-Ok.ensures.asks other)

pub returns-in-Err-clause-asks : goal.returns-in-Err-clause-asks
returns-in-Err-clause-asks g c other =
    let less = c.loop-test.true in
    asks_behind (c.loop.counter + c.loop.counter) 2 6 _ _ _ _ _ _ _ _ _ _ _ (omega (arith, less)) c.renew.ensures.counted c.renew.ensures.idle c.loop.invariant.asks (c.in-Err.ensures.asks other)

pub returns-in-Err-shut_down-clause-asks : goal.returns-in-Err-shut_down-clause-asks
returns-in-Err-shut_down-clause-asks g c other =
    let less = c.loop-test.true in
    asks_behind _ 0 6 _ _ _ _ _ _ _ _ _ _ _ (omega (arith, less)) c.renew-in-loop.ensures.counted c.renew-in-loop.ensures.idle
    (asks_behind (c.loop.counter + c.loop.counter) 2 (c.loop.counter + c.loop.counter + 2) _ _ _ _ _ _ _ _ _ _ _ (omega arith) c.renew.ensures.counted c.renew.ensures.idle c.loop.invariant.asks (c.in-Err-NoAnswer.ensures.asks (no_failure _ c.in-Err-NoAnswer.field-0-is)))
    (c.in-Err-shut_down.ensures.asks (not_line_of _ other))

pub returns-clause-asks : goal.returns-clause-asks
returns-clause-asks g c other =
    let end = c.loop.auto.counter-end in
    asks_behind (c.loop.counter + c.loop.counter) 2 6 _ _ _ _ _ _ _ _ _ _ _ (omega (arith, end)) c.renew-2.ensures.counted c.renew-2.ensures.idle c.loop.invariant.asks (c.try_once-2.ensures.asks other)
