-- A refusal says what was sent and what came.
use Rattle.modem_driver.proofs.EntryTries.{says_why}
use Rattle.modem_driver.proofs.entry_tries.enter_by.Goals as goal

pub returns-in-Err-clause-not_entered : goal.returns-in-Err-clause-not_entered
returns-in-Err-clause-not_entered g c =
    says_why _ _ _ _ _ c.try_thrice.result c.in-Err.why c.in-Err.is c.try_thrice.ensures.never c.try_thrice.ensures.failed c.try_thrice.ensures.no_refusal
