-- A lane begins.
use Rattle.std.specs.Prelude.{◌≡◌, ◌≢◌, OnOk, refl}
use Rattle.std.proofs.Common.{subst}
use Rattle.modem_data.specs.Passing.{Began, carries, data_came, data_read}
use Rattle.modem_data.specs.Switching.{Idle}
use Rattle.modem_data.specs.PipeSets.{OfEachPast}
use Rattle.modem_data.specs.Hops.{Relay, Hops, Passed}
use Rattle.modem_data.proofs.Relays.{lane_began}
use Rattle.modem_data.proofs.relay.Relay.begin.Goals as goal

pub returns-clause-began : goal.returns-clause-began
returns-clause-began c =
    let old : Relay = record { outer = c.self.inside.outer; inner = c.self.inside.inner; pipes = c.self.inside.pipes; to_driver = c.self.inside.to_driver.items; to_line = c.self.inside.to_line.items } in
    let new : Relay = record old { pipes = c.begin.new.self } in
    subst (λ (v : Relay). OnOk c.begin.result (Hops v new (Passed (Began c.args.dlci.number c.args.how c.args.until)))) c.self.view_is (lane_began old new c.args.dlci.number c.args.how c.args.until c.begin.result c.begin.ensures.has c.begin.ensures.began refl)

pub returns-clause-unread : goal.returns-clause-unread
returns-clause-unread c =
    λ e. subst (λ (v : Relay). OfEachPast v.pipes (λ role past. (carries role c.args.dlci.number past ≡ Idle) × (data_read c.args.dlci.number past ≢ data_came role c.args.dlci.number past))) c.self.view_is (c.begin.ensures.unread e)
