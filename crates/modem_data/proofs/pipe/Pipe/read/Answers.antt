-- What is read is the next of what came.
use Rattle.std.specs.Prelude.{take}
use Rattle.std.proofs.Common.{subst}
use Rattle.modem_data.specs.Passing.{Read}
use Rattle.modem_data.specs.Pipes.{Leads, Pipe}
use Rattle.modem_data.proofs.PipeCalls.{leads_read}
use Rattle.modem_data.proofs.pipe.Pipe.read.Goals as goal

pub returns-clause-leads : goal.returns-clause-leads
returns-clause-leads c =
    let old : Pipe = record { watch = c.self.inside.watch; lane = c.self.inside.lane; until = c.self.inside.until; held = c.self.inside.held; by_driver = c.self.inside.by_driver } in
    let new : Pipe = record old { lane = c.read-count.new.self } in
    let octets = take c.read-count.result c.read-count.new.room in
    subst (λ v. Leads v new (Read v.watch.dlci octets)) c.self.view_is (leads_read old c.read-count.new.self c.read-count.result octets c.read-count.ensures.rest c.read-count.ensures.given)
