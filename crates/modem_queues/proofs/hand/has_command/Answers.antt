-- None stands before the place that is noted.
use Rattle.std.proofs.Common.{◌∙◌}
use Rattle.modem_queues.proofs.hand.has_command.Goals as goal

pub returns : goal.returns
returns c = c.any_command.ensures ∙ c.from_first.ensures.any
