-- Data is read.
use Rattle.std.specs.Prelude.{IfOk, take, refl}
use Rattle.std.proofs.Common.{subst}
use Rattle.modem_data.specs.declared.pipe.Reading.{Reading}
use Rattle.modem_data.specs.Passing.{Read}
use Rattle.modem_data.specs.Hops.{Relay, Hops, Passed}
use Rattle.modem_data.proofs.Relays.{read_by}
use Rattle.modem_data.proofs.relay.Relay.read.Goals as goal

pub returns-clause-read : goal.returns-clause-read
returns-clause-read c =
    let old : Relay = record { outer = c.self.inside.outer; inner = c.self.inside.inner; pipes = c.self.inside.pipes; to_driver = c.self.inside.to_driver.items; to_line = c.self.inside.to_line.items } in
    let new : Relay = record old { pipes = c.read.new.self } in
    subst (λ (v : Relay). IfOk c.read.result (λ r. Hops v new (Passed (Read c.args.dlci.number (take r.count c.read.new.room))))) c.self.view_is (read_by old new c.args.dlci.number (λ (r : Reading). take r.count c.read.new.room) c.read.result c.read.ensures.leads refl)
