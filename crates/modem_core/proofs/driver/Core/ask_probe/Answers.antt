-- A Test command is sent, or the station refuses.
use Rattle.std.specs.Prelude.{◌≡◌, ℕ, List, [], ◌∷◌, ◌++◌, Some, None}
use Rattle.std.proofs.Common.{ap, sym, subst}
use Rattle.mux_station.specs.Stations.{Station}
use Rattle.modem_desk.specs.declared.request.Answer.{Answer}
use Rattle.modem_desk.specs.declared.request.Ask.TheVariants.{Probe}
use Rattle.modem_desk.specs.declared.request.Request.{Request}
use Rattle.modem_core.specs.Cores.{Core}
use Rattle.modem_core.specs.Doing.{AsksAlone, MayTake}
use Rattle.modem_core.proofs.requests.AskedRequests.{asked_probe}
use Rattle.modem_core.proofs.requests.ProbeRequests.{Probes, probe_refused}
use Rattle.modem_core.proofs.driver.Core.ask_probe.Goals as goal

pub returns-in-Err : goal.returns-in-Err
returns-in-Err c =
    let q = c.args.request in
    let octets = c.octets.result.now in
    let v : Core = record { station = c.self.inside.station; lanes = c.self.inside.lanes; hand = c.self.inside.hand; rules = c.self.inside.dialect; kinds = c.self.inside.kinds.items; lost = c.self.inside.lost } in
    let new : Core = record v { station = c.probe.new.self } in
    let may : MayTake v q (Probe octets) = subst (λ (os : List ℕ). MayTake v q (Probe os)) (sym c.octets.ensures.octets) (subst (λ (x : Core). MayTake x q (Probe c.args.echo)) (sym c.self.view_is) c.requires) in
    subst (λ (x : Core). AsksAlone x new q (Some c.answer_of.result)) c.self.view_is
    (subst (λ (a : Answer). AsksAlone v new q (Some a)) (sym c.answer_of.ensures)
    (probe_refused v new q octets c.in-Err.why c.self.invariant.role_is may c.octets.ensures.short (sym c.in-Err.ensures.refusal) (ap (λ (w : Station). record v { station = w }) c.in-Err.ensures.err)))

pub returns : goal.returns
returns c =
    let q = c.args.request in
    let octets = c.octets.result.now in
    let w = c.probe.new.self in
    let v : Core = record { station = c.self.inside.station; lanes = c.self.inside.lanes; hand = c.self.inside.hand; rules = c.self.inside.dialect; kinds = c.self.inside.kinds.items; lost = c.self.inside.lost } in
    let new : Core = record v { station = w; hand = c.push.new.self } in
    let same : new ≡ record v { station = w; hand = v.hand ++ q ∷ [] } = ap (λ (rs : List Request). record v { station = w; hand = rs }) c.push.ensures in
    let may : MayTake v q (Probe octets) = subst (λ (os : List ℕ). MayTake v q (Probe os)) (sym c.octets.ensures.octets) (subst (λ (x : Core). MayTake x q (Probe c.args.echo)) (sym c.self.view_is) c.requires) in
    let probes : Probes v w q octets = record { asks = may.asks; short = c.octets.ensures.short; taken_on = sym c.in_default.ensures.refusal; goes_on = c.in_default.ensures.past } in
    subst (λ (x : Core). AsksAlone x new q None) c.self.view_is (asked_probe v new w q octets c.self.invariant.role_is may probes same)
