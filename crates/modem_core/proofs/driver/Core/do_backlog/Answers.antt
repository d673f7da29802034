-- What is due is done.
use Rattle.std.specs.Prelude.{◌≡◌, Bool, Option, Some, refl, []}
use Rattle.std.proofs.Common.{sym, subst}
use Rattle.mux_station.specs.declared.role.Role.TheVariants.{Initiator}
use Rattle.modem_core.specs.Cores.{Core}
use Rattle.modem_core.specs.Holding.{Flows, acts_due}
use Rattle.modem_core.proofs.holds.HoldsDue.{none_flows, some_flows, some_lacks}
use Rattle.modem_core.proofs.driver.Core.do_backlog.Goals as goal

pub returns-in_default-clause-past : goal.returns-in_default-clause-past
returns-in_default-clause-past c =
    let v = c.args.self.now in
    let d = c.args.dlci in
    let role : v.station.role ≡ Initiator = subst (λ (x : Core). x.station.role ≡ Initiator) c.self.view_is c.self.invariant.role_is in
    let none = sym c.in_default.ensures in
    subst (λ (o : Option Bool). Flows v v d.number c.args.lines (acts_due d.number o)) (sym none) (none_flows v d.number c.args.lines [] role d.in_range none refl)

pub returns-then-not-do_flow-clause-no_room : goal.returns-then-not-do_flow-clause-no_room
returns-then-not-do_flow-clause-no_room c =
    let v = c.args.self.now in
    let d = c.args.dlci in
    let role : v.station.role ≡ Initiator = subst (λ (x : Core). x.station.role ≡ Initiator) c.self.view_is c.self.invariant.role_is in
    some_lacks v d.number c.args.lines c.in-Some.go role d.in_range (sym c.in-Some.ensures) (c.do_flow.ensures.no_room c.if-not-do_flow.true)

pub returns-clause-past : goal.returns-clause-past
returns-clause-past c =
    let v = c.args.self.now in
    let new = c.do_flow.new.self in
    let d = c.args.dlci in
    let role : v.station.role ≡ Initiator = subst (λ (x : Core). x.station.role ≡ Initiator) c.self.view_is c.self.invariant.role_is in
    let some = sym c.in-Some.ensures in
    subst (λ (o : Option Bool). Flows v new d.number c.args.lines (acts_due d.number o)) (sym some)
    (some_flows v new d.number c.args.lines c.in-Some.go (acts_due d.number (Some c.in-Some.go)) role d.in_range some (c.do_flow.ensures.past c.if-not-do_flow.false))
