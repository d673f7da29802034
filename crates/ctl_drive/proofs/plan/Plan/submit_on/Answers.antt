-- The next command was submitted.
use Rattle.std.specs.Prelude.{refl}
use Rattle.modem_desk.specs.declared.request.Ask.TheVariants as ask
use Rattle.ctl_drive.specs.Plans.{is_stopping}
use Rattle.ctl_drive.proofs.Asks.{asks_from, asks_submitted}
use Rattle.ctl_drive.proofs.plan.Plan.submit_on.Goals as goal

pub returns-clause-asks : goal.returns-clause-asks
returns-clause-asks g c said =
    asks_from _ _ _ _ _ _ _ c.self.view_is
    (asks_submitted (record { input = c.self.inside.input; count = c.self.inside.number; was_bad = c.self.inside.bad; waiting = c.self.inside.queues; stopping = is_stopping c.self.inside.phase })
    (record { input = c.self.inside.input; count = c.self.inside.number; was_bad = c.self.inside.bad; waiting = c.take.new.self; stopping = is_stopping c.self.inside.phase })
    c.args.users.now.caller.submitted c.submit.new.self.caller.submitted (ask.Command c.in-Some.dlci c.in-Some-take.line) said refl c.in-Some-take.ensures c.in_ok-submit.ensures.asks)
