-- It isn't open, or the line is lost.
use Rattle.std.specs.Prelude.{◌≡◌, not, false}
use Rattle.std.proofs.Common.{ap, sym, ◌∙◌, subst}
use Rattle.mux_station.specs.declared.role.Role.TheVariants.{Initiator}
use Rattle.modem_core.specs.Cores.{Core}
use Rattle.modem_core.proofs.holds.HoldsDue.{never_open, never_lost}
use Rattle.modem_core.proofs.driver.Core.checks.Goals as goal

pub returns-then-not-self : goal.returns-then-not-self
returns-then-not-self c = λ shut.
    let v = c.args.self.now in
    let d = c.args.dlci in
    let role : v.station.role ≡ Initiator = subst (λ (x : Core). x.station.role ≡ Initiator) c.self.view_is c.self.invariant.role_is in
    never_open v d.number role d.in_range (sym c.is_open.ensures ∙ shut)

pub returns-else-not-self : goal.returns-else-not-self
returns-else-not-self c = λ gone.
    let v = c.args.self.now in
    let d = c.args.dlci in
    let role : v.station.role ≡ Initiator = subst (λ (x : Core). x.station.role ≡ Initiator) c.self.view_is c.self.invariant.role_is in
    let lost : not v.lost ≡ false = ap (λ (x : Core). not x.lost) (sym c.self.view_is) ∙ gone in
    never_lost v d.number role d.in_range lost
