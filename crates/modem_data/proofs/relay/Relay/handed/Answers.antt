-- What is given waits no more.
use Rattle.std.specs.Prelude.{◌≡◌, drop, refl, take}
use Rattle.std.proofs.Common.{ap, subst}
use Rattle.modem_data.specs.Hops.{Relay, Hops, Handed}
use Rattle.modem_data.proofs.Relays.{hops_handed}
use Rattle.modem_data.proofs.relay.Relay.handed.Goals as goal

pub returns-clause-hands : goal.returns-clause-hands
returns-clause-hands c =
    let old : Relay = record { outer = c.self.inside.outer; inner = c.self.inside.inner; pipes = c.self.inside.pipes; to_driver = c.self.inside.to_driver.items; to_line = c.self.inside.to_line.items } in
    let new : Relay = record old { to_driver = c.pass.new.self.items } in
    subst (λ (v : Relay). Hops v new (Handed (take c.args.count v.to_driver))) c.self.view_is (hops_handed old new (take c.args.count old.to_driver) c.args.count refl c.pass.ensures.rest refl)

pub returns-clause-rest : goal.returns-clause-rest
returns-clause-rest c =
    let old : Relay = record { outer = c.self.inside.outer; inner = c.self.inside.inner; pipes = c.self.inside.pipes; to_driver = c.self.inside.to_driver.items; to_line = c.self.inside.to_line.items } in
    let new : Relay = record old { to_driver = c.pass.new.self.items } in
    subst (λ (v : Relay). new ≡ record v { to_driver = drop c.args.count v.to_driver }) c.self.view_is (ap (λ xs. record old { to_driver = xs }) c.pass.ensures.rest)
