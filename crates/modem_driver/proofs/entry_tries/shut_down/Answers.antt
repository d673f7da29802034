-- The fill and the CLD frame, one behind the other.
use Rattle.std.specs.Prelude.{Err}
use Rattle.std.proofs.Common.{arith}
use Rattle.modem_driver.proofs.EntryTries.{asks_behind, asks_both, cld_partly, closed_if, fill_partly, ok_no_failure, waited_if}
use Rattle.modem_driver.proofs.entry_tries.shut_down.Goals as goal

pub returns-clause-closed : goal.returns-clause-closed
returns-clause-closed g c =
    closed_if _ _ _ _ _ _ c.read_away.result c.close_down.ensures c.in-Ok.ensures.sent c.in-Ok-send.ensures.sent c.read_away.ensures.sent

pub returns-in-Err-clause-begun : goal.returns-in-Err-clause-begun
returns-in-Err-clause-begun g c is = fill_partly _ _ _ (c.in-Err.ensures.begun is)

pub returns-in-Err-send-clause-begun : goal.returns-in-Err-send-clause-begun
returns-in-Err-send-clause-begun g c is = cld_partly _ _ _ _ _ c.close_down.ensures c.in-Ok.ensures.sent (c.in-Err-send.ensures.begun is)

pub returns-in-Err-send-clause-asks : goal.returns-in-Err-send-clause-asks
returns-in-Err-send-clause-asks g c other =
    asks_both 0 0 0 _ _ _ _ _ _ _ _ _ (omega arith) (c.in-Ok.ensures.asks (ok_no_failure c.in-Ok.field-0)) (c.in-Err-send.ensures.asks other)

pub returns-clause-asks : goal.returns-clause-asks
returns-clause-asks g c other =
    asks_behind 0 0 0 _ _ _ _ _ _ _ _ _ _ _ (omega arith) c.pause.ensures.counted c.pause.ensures.idle
    (asks_both 0 0 0 _ _ _ _ _ _ _ _ _ (omega arith) (c.in-Ok.ensures.asks (ok_no_failure c.in-Ok.field-0)) (c.in-Ok-send.ensures.asks (ok_no_failure c.in-Ok-send.field-0)))
    (c.read_away.ensures.asks other)

pub returns-in-Err-clause-waited : goal.returns-in-Err-clause-waited
returns-in-Err-clause-waited g c other = waited_if (Err c.in-Err.why) _ tt c.in-Err.ensures.waited c.in-Err.ensures.no_refusal other

pub returns-in-Err-send-clause-waited : goal.returns-in-Err-send-clause-waited
returns-in-Err-send-clause-waited g c other = waited_if (Err c.in-Err-send.why) _ tt c.in-Err-send.ensures.waited c.in-Err-send.ensures.no_refusal other

pub returns-clause-waited : goal.returns-clause-waited
returns-clause-waited g c other =
    waited_if c.read_away.result _ c.read_away.ensures.waited (λ is. absurd (c.read_away.ensures.no_answer is)) c.read_away.ensures.no_refusal other

pub returns-clause-waits : goal.returns-clause-waits
returns-clause-waits g c =
    let fill = c.in-Ok.ensures.waits in
    let cld = c.in-Ok-send.ensures.waits in
    let pause = c.pause.ensures.waits in
    let away = c.read_away.ensures.waits in
    omega (arith, fill, cld, pause, away)
