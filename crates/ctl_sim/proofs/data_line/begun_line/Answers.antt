-- The relay is the modem's end, for these connections.
use Rattle.std.specs.Prelude.{List}
use Rattle.std.proofs.Common.{subst, ◌∙◌}
use Rattle.std.proofs.lemmas.Result.{IfOk-weaker}
use Rattle.mux_station.specs.declared.role.Role.TheVariants.{Responder}
use Rattle.modem_data.specs.Hops.{BeginsAs}
use Rattle.data_files.specs.Files.{BeginsFiled, FileState, dlcis}
use Rattle.ctl_sim.specs.HeldLine.{HeldState, held_view}
use Rattle.ctl_sim.proofs.DataLines.{begins_role}
use Rattle.ctl_sim.proofs.data_line.begun_line.Goals as goal

pub with_role-requires-clause-relay : goal.with_role-requires-clause-relay
with_role-requires-clause-relay g c = subst (λ (fs : List (FileState _)). BeginsAs Responder c.args.n1.octets (dlcis fs) c.in_ok-relay.relay) c.as_slice.ensures.value c.in_ok-relay.ensures

pub returns : goal.returns
returns g c = IfOk-weaker c.with_role.result _ _ (λ line b. record {
  relay = c.in_ok-relay.relay;
  begins = subst (λ (h : HeldState). BeginsFiled held_view h c.in_ok-relay.relay c.args.n1.octets c.args.files.items line) c.new.ensures b;
  role_is = b.role_is ∙ begins_role Responder c.args.n1.octets (dlcis c.args.files.items) c.in_ok-relay.relay
      (subst (λ (fs : List (FileState _)). BeginsAs Responder c.args.n1.octets (dlcis fs) c.in_ok-relay.relay) c.as_slice.ensures.value c.in_ok-relay.ensures);
}) c.with_role.ensures.begins
