-- The driver takes what its pass lets it take.
use Rattle.std.proofs.Common.{rules}
use Rattle.modem_desk.proofs.queue_rule.RuleSteps.{takes}
use Rattle.modem_desk.proofs.driver.DriverEnd.next_queued.Goals as goal

pub pop_as-requires-clause-rule : goal.pop_as-requires-clause-rule
pop_as-requires-clause-rule g c = (takes _ _ (search rules) (search rules), λ items views h at. tt)
