-- Octets are given.
use Rattle.std.specs.Prelude.{◌≡◌, IfOk, OnOk, refl, take, true}
use Rattle.std.proofs.Common.{subst}
use Rattle.mux_station.specs.Opening.{is_open}
use Rattle.modem_data.specs.Switching.{takes_given}
use Rattle.modem_data.specs.Passing.{Gave, carries, wire}
use Rattle.modem_data.specs.PipeSets.{OfEachPast}
use Rattle.modem_data.specs.Hops.{Relay, Hops, Passed}
use Rattle.modem_data.proofs.Relays.{octets_given}
use Rattle.modem_data.proofs.relay.Relay.give.Goals as goal

pub returns-clause-gave : goal.returns-clause-gave
returns-clause-gave c =
    let old : Relay = record { outer = c.self.inside.outer; inner = c.self.inside.inner; pipes = c.self.inside.pipes; to_driver = c.self.inside.to_driver.items; to_line = c.self.inside.to_line.items } in
    let new : Relay = record old { pipes = c.give.new.self } in
    subst (λ (v : Relay). IfOk c.give.result (λ count. Hops v new (Passed (Gave c.args.dlci.number (take count c.args.octets.now))))) c.self.view_is (octets_given old new c.args.dlci.number c.args.octets.now c.give.result c.give.ensures.leads refl)

pub returns-clause-lets : goal.returns-clause-lets
returns-clause-lets c =
    let old : Relay = record { outer = c.self.inside.outer; inner = c.self.inside.inner; pipes = c.self.inside.pipes; to_driver = c.self.inside.to_driver.items; to_line = c.self.inside.to_line.items } in
    let d = c.args.dlci.number in
    subst (λ (v : Relay). OnOk c.give.result (OfEachPast v.pipes (λ role past. (is_open role d (wire past) ≡ true) × (takes_given (carries role d past) ≡ true)))) c.self.view_is c.give.ensures.lets
