-- What is given waits no more.
use Rattle.std.specs.Prelude.{◌≡◌, drop, refl, take}
use Rattle.std.proofs.Common.{ap, subst}
use Rattle.modem_data.specs.Hops.{Relay, Hops, Wrote}
use Rattle.modem_data.proofs.Relays.{hops_wrote}
use Rattle.modem_data.proofs.relay.Relay.wrote.Goals as goal

pub returns-clause-writes : goal.returns-clause-writes
returns-clause-writes c =
    let old : Relay = record { outer = c.self.inside.outer; inner = c.self.inside.inner; pipes = c.self.inside.pipes; to_driver = c.self.inside.to_driver.items; to_line = c.self.inside.to_line.items } in
    let new : Relay = record old { to_line = c.pass.new.self.items } in
    subst (λ (v : Relay). Hops v new (Wrote (take c.args.count v.to_line))) c.self.view_is (hops_wrote old new (take c.args.count old.to_line) c.args.count refl c.pass.ensures.rest refl)

pub returns-clause-rest : goal.returns-clause-rest
returns-clause-rest c =
    let old : Relay = record { outer = c.self.inside.outer; inner = c.self.inside.inner; pipes = c.self.inside.pipes; to_driver = c.self.inside.to_driver.items; to_line = c.self.inside.to_line.items } in
    let new : Relay = record old { to_line = c.pass.new.self.items } in
    subst (λ (v : Relay). new ≡ record v { to_line = drop c.args.count v.to_line }) c.self.view_is (ap (λ xs. record old { to_line = xs }) c.pass.ensures.rest)
