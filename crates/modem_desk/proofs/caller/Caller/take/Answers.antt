use Rattle.std.proofs.Common.{rules}
use Rattle.modem_desk.proofs.queue_rule.RuleSteps.{gets}
use Rattle.modem_desk.proofs.caller.Caller.take.Goals as goal

pub another-requires-clause-rule : goal.another-requires-clause-rule
another-requires-clause-rule c = gets _ _ (search rules)
