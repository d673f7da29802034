-- The line is lost.
use Rattle.std.specs.Prelude.{refl}
use Rattle.std.proofs.Common.{subst}
use Rattle.modem_data.specs.Passing.{Lost}
use Rattle.modem_data.specs.Hops.{Relay, Hops, Passed}
use Rattle.modem_data.proofs.Relays.{hops_lost}
use Rattle.modem_data.proofs.relay.Relay.lost.Goals as goal

pub returns : goal.returns
returns c =
    let old : Relay = record { outer = c.self.inside.outer; inner = c.self.inside.inner; pipes = c.self.inside.pipes; to_driver = c.self.inside.to_driver.items; to_line = c.self.inside.to_line.items } in
    let new : Relay = record old { pipes = c.lost.new.self } in
    subst (λ v. Hops v new (Passed Lost)) c.self.view_is (hops_lost old new c.lost.ensures refl)
