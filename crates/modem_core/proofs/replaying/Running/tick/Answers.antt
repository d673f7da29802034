-- A call and all that goes out after it.
use Rattle.std.proofs.Common.{refl, map}
use Rattle.modem_history.specs.Acts.{act_of, Tick}
use Rattle.modem_core.specs.Running.{running_of}
use Rattle.modem_core.proofs.replays.Pieces.{steps}
use Rattle.modem_core.proofs.replaying.Running.tick.Goals as goal

pub returns-clause-steps : goal.returns-clause-steps
returns-clause-steps c = steps Tick (running_of c.args.self.now) (running_of c.go_on.new.self) c.tick.new.self (map act_of c.in_ok-acts.acts.items) refl c.in_ok-acts.ensures.past c.in_ok-go_on.ensures.sends
