-- Where nothing answered, and what patience was asked.
use Rattle.std.proofs.Common.{arith}
use Rattle.modem_driver.proofs.EntryTries.{asks_at_most, asks_both, no_reply_at, no_reply_behind, ok_no_failure}
use Rattle.modem_driver.proofs.entry_tries.try_once.Goals as goal

pub returns-then-ranges-clause-unanswered : goal.returns-then-ranges-clause-unanswered
returns-then-ranges-clause-unanswered g c is =
    no_reply_behind _ _ _ _ _ c.in-Ok.field-0 c.if-ranges.true (c.ask-then-ranges.ensures.unanswered is) c.in-Ok.ensures.answered

pub returns-clause-unanswered : goal.returns-clause-unanswered
returns-clause-unanswered g c is = no_reply_at _ _ _ _ c.if-ranges.false (c.ask-2.ensures.unanswered is)

pub returns-in-Err-clause-asks : goal.returns-in-Err-clause-asks
returns-in-Err-clause-asks g c other = asks_at_most 1 2 _ _ _ _ _ _ (omega arith) (c.in-Err.ensures.asks other)

pub returns-then-ranges-clause-asks : goal.returns-then-ranges-clause-asks
returns-then-ranges-clause-asks g c other =
    asks_both 1 1 2 _ _ _ _ _ _ _ _ _ (omega arith) (c.in-Ok.ensures.asks (ok_no_failure c.in-Ok.field-0)) (c.ask-then-ranges.ensures.asks other)

pub returns-clause-asks : goal.returns-clause-asks
returns-clause-asks g c other = asks_at_most 1 2 _ _ _ _ _ _ (omega arith) (c.ask-2.ensures.asks other)
