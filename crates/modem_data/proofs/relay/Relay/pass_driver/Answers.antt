-- A frame of the driver passes.
use Rattle.std.specs.Prelude.{refl}
use Rattle.std.proofs.Common.{subst}
use Rattle.modem_data.specs.Passing.{Went}
use Rattle.modem_data.specs.Hops.{Relay, HopsBy, Passed}
use Rattle.modem_data.proofs.Relays.{hops_went}
use Rattle.modem_data.proofs.relay.Relay.pass_driver.Goals as goal

pub returns-clause-went : goal.returns-clause-went
returns-clause-went c =
    let old : Relay = record { outer = c.self.inside.outer; inner = c.self.inside.inner; pipes = c.self.inside.pipes; to_driver = c.self.inside.to_driver.items; to_line = c.self.inside.to_line.items } in
    let new : Relay = record old { inner = c.pass_out.new.deframer; pipes = c.pass_out.new.pipes; to_line = c.pass_out.new.to_line.items } in
    λ e. subst (λ v. HopsBy v new (λ f. Passed (Went f))) c.self.view_is (hops_went old new (c.pass_out.ensures.passes e) (c.pass_out.ensures.over e) c.pass_out.ensures.n1 refl refl)
