use Rattle.modem_desk.proofs.queue_rule.RuleSteps.{begins}
use Rattle.modem_desk.proofs.desk.unconnected.Goals as goal

pub ruled-requires-clause-rule : goal.ruled-requires-clause-rule
ruled-requires-clause-rule c = begins
