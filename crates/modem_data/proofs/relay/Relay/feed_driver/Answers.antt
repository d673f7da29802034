-- Octets of the driver are fed.
use Rattle.std.specs.Prelude.{refl, take}
use Rattle.std.proofs.Common.{subst}
use Rattle.modem_data.specs.Hops.{Relay, Hops, Took}
use Rattle.modem_data.proofs.Relays.{hops_took}
use Rattle.modem_data.proofs.relay.Relay.feed_driver.Goals as goal

pub returns-clause-took : goal.returns-clause-took
returns-clause-took c =
    let old : Relay = record { outer = c.self.inside.outer; inner = c.self.inside.inner; pipes = c.self.inside.pipes; to_driver = c.self.inside.to_driver.items; to_line = c.self.inside.to_line.items } in
    let new : Relay = record old { inner = c.feed.new.self } in
    subst (λ v. Hops v new (Took (take c.feed.result c.args.octets.now))) c.self.view_is (hops_took old new (take c.feed.result c.args.octets.now) c.feed.ensures.past c.feed.ensures.n1 refl)
