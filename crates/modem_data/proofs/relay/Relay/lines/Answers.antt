-- A lane is ended.
use Rattle.std.specs.Prelude.{OnOk, refl}
use Rattle.std.proofs.Common.{subst}
use Rattle.modem_data.specs.Passing.{EndedLane}
use Rattle.modem_data.specs.Hops.{Relay, Hops, Passed}
use Rattle.modem_data.proofs.Relays.{ended_by}
use Rattle.modem_data.proofs.relay.Relay.lines.Goals as goal

pub returns-clause-ended : goal.returns-clause-ended
returns-clause-ended c =
    let old : Relay = record { outer = c.self.inside.outer; inner = c.self.inside.inner; pipes = c.self.inside.pipes; to_driver = c.self.inside.to_driver.items; to_line = c.self.inside.to_line.items } in
    let new : Relay = record old { pipes = c.lines.new.self } in
    subst (λ (v : Relay). OnOk c.lines.result (Hops v new (Passed (EndedLane c.args.dlci.number)))) c.self.view_is (ended_by old new c.args.dlci.number c.lines.result c.lines.ensures.ended refl)
