-- What went waits no more.
use Rattle.std.specs.Prelude.{refl, take}
use Rattle.std.proofs.Common.{subst}
use Rattle.modem_data.specs.Hops.{Relay, Hops, Wrote}
use Rattle.modem_data.proofs.Relays.{hops_wrote}
use Rattle.modem_data.proofs.relay.Relay.write.Goals as goal

pub returns-clause-writes : goal.returns-clause-writes
returns-clause-writes c =
    let old : Relay = record { outer = c.self.inside.outer; inner = c.self.inside.inner; pipes = c.self.inside.pipes; to_driver = c.self.inside.to_driver.items; to_line = c.self.inside.to_line.items } in
    let new : Relay = record old { to_line = c.take.new.self.items } in
    let octets = take c.take.result c.take.new.room in
    subst (λ (v : Relay). Hops v new (Wrote octets)) c.self.view_is (hops_wrote old new octets c.take.result c.take.ensures.given c.take.ensures.rest refl)
