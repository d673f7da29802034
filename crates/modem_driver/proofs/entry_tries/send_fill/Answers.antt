-- One flag more goes out.
use Rattle.std.specs.Prelude.{refl}
use Rattle.std.proofs.Common.{arith, ◌∙◌}
use Rattle.modem_driver.proofs.EntryTries.{asks_both, asks_none, flag_more, flag_partly, flags_all, ok_no_failure, sent_none}
use Rattle.modem_driver.proofs.entry_tries.send_fill.Goals as goal

pub loop-init : goal.loop-init
loop-init g c = record { sent = sent_none _; ready = c.requires; sound = refl; keeps_up = omega arith; asks = asks_none _ _ _; waits = refl }

pub loop-preserved : goal.loop-preserved
loop-preserved g c =
    let e = c.in-Ok.ensures in
    let before = c.loop.invariant.keeps_up in
    let later = e.keeps_up in
    record {
      sent = flag_more _ _ _ c.loop.counter c.loop.invariant.sent e.sent;
      ready = e.ready;
      sound = e.sound (ok_no_failure tt) ∙ c.loop.invariant.sound;
      keeps_up = omega (arith, before, later);
      asks = asks_both 0 0 0 _ _ _ _ _ _ _ _ _ (omega arith) c.loop.invariant.asks (e.asks (ok_no_failure tt));
      waits = e.waits ∙ c.loop.invariant.waits;
    }

pub returns-in-Err-clause-begun : goal.returns-in-Err-clause-begun
returns-in-Err-clause-begun g c is =
    let n1 = c.from-end.ensures in
    let less = c.loop-test.true in
    flag_partly _ _ _ c.loop.counter _ (omega (arith, n1, less)) c.loop.invariant.sent (c.in-Err.ensures.begun is)

pub returns-in-Err-clause-asks : goal.returns-in-Err-clause-asks
returns-in-Err-clause-asks g c other = asks_both 0 0 0 _ _ _ _ _ _ _ _ _ (omega arith) c.loop.invariant.asks (c.in-Err.ensures.asks other)

pub returns-clause-sent : goal.returns-clause-sent
returns-clause-sent g c =
    let n1 = c.from-end.ensures in
    let end = c.loop.auto.counter-end in
    let over = c.loop-test.false in
    flags_all _ _ c.loop.counter _ (omega (arith, n1, end, over)) c.loop.invariant.sent
