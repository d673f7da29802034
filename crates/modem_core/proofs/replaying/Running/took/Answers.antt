-- A call and all that goes out after it.
use Rattle.std.proofs.Common.{refl, map}
use Rattle.modem_history.specs.Acts.{act_of, Took}
use Rattle.modem_core.specs.Running.{running_of}
use Rattle.modem_core.proofs.replays.Pieces.{steps}
use Rattle.modem_core.proofs.replaying.Running.took.Goals as goal

pub returns-in-Ok-clause-steps : goal.returns-in-Ok-clause-steps
returns-in-Ok-clause-steps c = steps (Took c.args.request) (running_of c.args.self.now) (running_of c.go_on.new.self) c.took.new.self (map act_of c.in-Ok.acts.items) refl c.in-Ok.ensures.past c.in_ok-go_on-in-Ok.ensures.sends
