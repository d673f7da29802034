-- Octets of the line are fed.
use Rattle.std.specs.Prelude.{refl, take}
use Rattle.std.proofs.Common.{subst}
use Rattle.modem_data.specs.Hops.{Relay, Hops, Fed}
use Rattle.modem_data.proofs.Relays.{hops_fed}
use Rattle.modem_data.proofs.relay.Relay.feed_line.Goals as goal

pub returns-clause-fed : goal.returns-clause-fed
returns-clause-fed c =
    let old : Relay = record { outer = c.self.inside.outer; inner = c.self.inside.inner; pipes = c.self.inside.pipes; to_driver = c.self.inside.to_driver.items; to_line = c.self.inside.to_line.items } in
    let new : Relay = record old { outer = c.feed.new.self } in
    subst (λ v. Hops v new (Fed (take c.feed.result c.args.octets.now))) c.self.view_is (hops_fed old new (take c.feed.result c.args.octets.now) c.feed.ensures.past c.feed.ensures.n1 refl)
