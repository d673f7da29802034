-- The initiator's table, of what the station keeps.
use Rattle.std.specs.Prelude.{◌≡◌, ◌==◌, ◌||◌}
use Rattle.std.proofs.Common.{◌∙◌, ap, sym, subst}
use Rattle.mux_station.specs.declared.role.Role.{Role}
use Rattle.mux_station.specs.declared.role.Role.TheVariants.{Initiator}
use Rattle.mux_station.specs.States.{State, is_opened}
use Rattle.mux_station.specs.Tables.{by_table}
use Rattle.mux_station.specs.Stations.{Station, channel_at}
use Rattle.mux_station.specs.Getting.{TurnsBy, row_frames}
use Rattle.mux_station.proofs.station.Station.row.Goals as goal

pub returns-in-Initiator-clause-turns : goal.returns-in-Initiator-clause-turns
returns-in-Initiator-clause-turns c =
    let v = c.args.self.now in
    let d = c.args.dlci.number in
    let z = (d == 0) || is_opened (channel_at v 0).state in
    let r : Initiator ≡ v.role = sym c.in-Initiator.is ∙ ap (λ (w : Station). w.role) c.self.view_is in
    subst (λ (w : Role). TurnsBy w z (channel_at v d).state c.args.kind c.initiator_row.result.turn) r
    (subst (λ (s : State). TurnsBy Initiator z s c.args.kind c.initiator_row.result.turn) c.stage-stage.ensures (c.initiator_row.ensures.turns z))

pub returns-in-Initiator-clause-frames : goal.returns-in-Initiator-clause-frames
returns-in-Initiator-clause-frames c =
    let v = c.args.self.now in
    let d = c.args.dlci.number in
    let row = c.initiator_row.result in
    let z = (channel_at v 0).state in
    let r : Initiator ≡ v.role = sym c.in-Initiator.is ∙ ap (λ (w : Station). w.role) c.self.view_is in
    subst (λ (w : Role). by_table w d z (channel_at v d).state c.args.kind ≡ row_frames w d row.answer row.turn) r
    (subst (λ (s : State). by_table Initiator d z s c.args.kind ≡ row_frames Initiator d row.answer row.turn) c.stage-stage.ensures (c.initiator_row.ensures.frames z))
