-- A lane begins.
use Rattle.std.proofs.Common.{rules, subst}
use Rattle.modem_data.specs.Passing.{Began}
use Rattle.modem_data.specs.Pipes.{Leads, Pipe}
use Rattle.modem_data.proofs.PipeCalls.{leads_began}
use Rattle.modem_data.proofs.pipe.Pipe.begin.Goals as goal

pub returns-clause-leads : goal.returns-clause-leads
returns-clause-leads c =
    let old : Pipe = record { watch = c.self.inside.watch; lane = c.self.inside.lane; until = c.self.inside.until; held = c.self.inside.held; by_driver = c.self.inside.by_driver } in
    let new : Pipe = record old { lane = c.begin.new.self; until = c.args.until } in
    subst (λ v. Leads v new (Began v.watch.dlci c.args.how c.args.until)) c.self.view_is (leads_began old c.begin.new.self c.args.how c.args.until (search rules) (search rules) c.begin.ensures)
