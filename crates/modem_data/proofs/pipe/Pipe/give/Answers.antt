-- What is given waits.
use Rattle.std.specs.Prelude.{◌≡◌, true, take}
use Rattle.std.proofs.Common.{rules, subst}
use Rattle.modem_data.specs.Switching.{takes_given}
use Rattle.modem_data.specs.Passing.{Gave}
use Rattle.modem_data.specs.Pipes.{Leads, Pipe}
use Rattle.modem_data.proofs.PipeCalls.{leads_gave}
use Rattle.modem_data.proofs.pipe.Pipe.give.Goals as goal

pub returns-clause-leads : goal.returns-clause-leads
returns-clause-leads c =
    let old : Pipe = record { watch = c.self.inside.watch; lane = c.self.inside.lane; until = c.self.inside.until; held = c.self.inside.held; by_driver = c.self.inside.by_driver } in
    let new : Pipe = record old { lane = c.give.new.self } in
    let up : c.self.inside.watch.own.is_open ≡ true = search rules in
    let lane : takes_given c.self.inside.lane.carries ≡ true = search rules in
    subst (λ v. Leads v new (Gave v.watch.dlci (take c.give.result c.args.octets.now))) c.self.view_is (leads_gave old c.give.new.self c.args.octets.now c.give.result up lane c.give.ensures.few c.give.ensures.gave)
