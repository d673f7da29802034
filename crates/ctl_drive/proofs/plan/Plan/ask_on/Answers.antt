-- Something was asked beside the lines, or couldn't be.
use Rattle.std.specs.Prelude.{refl}
use Rattle.ctl_drive.proofs.Asks.{asks_after, asks_same}
use Rattle.ctl_drive.proofs.plan.Plan.ask_on.Goals as goal

pub returns-then-not-branch-clause-asks : goal.returns-then-not-branch-clause-asks
returns-then-not-branch-clause-asks g c said = asks_same _ _ _ _ said refl c.in_ok-ask.ensures.asks

pub returns-clause-asks : goal.returns-clause-asks
returns-clause-asks g c said = asks_after c.in-Some.control _ _ _ _ said c.in-Some.ensures.through c.note_asked.ensures c.in_ok-ask.ensures.asks
