-- What is due is done.
use Rattle.std.specs.Prelude.{◌≡◌, map}
use Rattle.std.proofs.Common.{sym, subst}
use Rattle.std.specs.Global.{Vec}
use Rattle.mux_station.specs.declared.role.Role.TheVariants.{Initiator}
use Rattle.modem_history.specs.Acts.{act_of}
use Rattle.modem_core.specs.Cores.{Core}
use Rattle.modem_core.specs.Holding.{Flows, TurnsFlow}
use Rattle.modem_history.specs.declared.act.Act.{Act}
use Rattle.modem_core.proofs.requests.AcceptedRequests.{ok_too}
use Rattle.modem_core.proofs.holds.HoldsDue.{none_flows, some_flows, some_lacks, some_finds}
use Rattle.modem_core.proofs.driver.Core.backlog.Goals as goal

pub returns-in-None-clause-past : goal.returns-in-None-clause-past
returns-in-None-clause-past c =
    let v = c.args.self.now in
    let d = c.args.dlci in
    let role : v.station.role ≡ Initiator = subst (λ (x : Core). x.station.role ≡ Initiator) c.self.view_is c.self.invariant.role_is in
    none_flows v d.number c.args.lines c.new.result.items role d.in_range (sym c.in-None.ensures) c.new.ensures.items

pub returns-in-Some-clause-past : goal.returns-in-Some-clause-past
returns-in-Some-clause-past c =
    let v = c.args.self.now in
    let new = c.turn_flow.new.self in
    let d = c.args.dlci in
    let role : v.station.role ≡ Initiator = subst (λ (x : Core). x.station.role ≡ Initiator) c.self.view_is c.self.invariant.role_is in
    ok_too (λ (acts : Vec Act). TurnsFlow v new d.number c.in-Some.go (map act_of acts.items)) (λ (acts : Vec Act). Flows v new d.number c.args.lines (map act_of acts.items)) c.turn_flow.result
    (λ acts t. some_flows v new d.number c.args.lines c.in-Some.go (map act_of acts.items) role d.in_range (sym c.in-Some.ensures) t) c.turn_flow.ensures.past

pub returns-in-Some-clause-no_room : goal.returns-in-Some-clause-no_room
returns-in-Some-clause-no_room c = λ k.
    let v = c.args.self.now in
    let d = c.args.dlci in
    let role : v.station.role ≡ Initiator = subst (λ (x : Core). x.station.role ≡ Initiator) c.self.view_is c.self.invariant.role_is in
    some_lacks v d.number c.args.lines c.in-Some.go role d.in_range (sym c.in-Some.ensures) (c.turn_flow.ensures.no_room k)

pub returns-in-Some-clause-no_memory : goal.returns-in-Some-clause-no_memory
returns-in-Some-clause-no_memory c = λ k.
    let v = c.args.self.now in
    let d = c.args.dlci in
    let role : v.station.role ≡ Initiator = subst (λ (x : Core). x.station.role ≡ Initiator) c.self.view_is c.self.invariant.role_is in
    some_finds v d.number c.args.lines c.in-Some.go role d.in_range (sym c.in-Some.ensures) (c.turn_flow.ensures.no_memory k)
