-- Their connections were named.
use Rattle.std.specs.Prelude.{List, ℕ, IfOk}
use Rattle.std.proofs.Common.{ap, subst, ◌∙◌}
use Rattle.mux_station.specs.declared.role.Role.TheVariants.{Responder}
use Rattle.modem_data.specs.Hops.{BeginsAs}
use Rattle.modem_data.specs.PipeSets.{numbers}
use Rattle.ctl_sim.proofs.data_line.relay_for.Goals as goal

pub returns : goal.returns
returns g c = subst (λ (ds : List ℕ). IfOk c.with_role.result (λ relay. BeginsAs Responder c.args.n1.octets ds relay)) (ap numbers c.as_slice.ensures.value ∙ c.in_ok-named.ensures) c.with_role.ensures.past
