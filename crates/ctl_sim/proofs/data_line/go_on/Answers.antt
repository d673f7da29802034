-- The files are those of the same connections.
use Rattle.std.specs.Prelude.{List}
use Rattle.std.proofs.Common.{subst}
use Rattle.mux_station.specs.declared.role.Role.TheVariants.{Responder}
use Rattle.modem_data.specs.Hops.{BeginsAs}
use Rattle.data_files.specs.Files.{FileState, dlcis}
use Rattle.ctl_sim.proofs.DataLines.{goes_on}
use Rattle.ctl_sim.proofs.data_line.go_on.Goals as goal

pub go_on_at-requires : goal.go_on_at-requires
go_on_at-requires g c = subst (λ (fs : List (FileState _)). BeginsAs Responder c.args.n1.octets (dlcis fs) c.in_ok-relay.relay) c.files.ensures c.in_ok-relay.ensures

pub returns : goal.returns
returns g c = goes_on g.P.SerialLine.seen c.go_on_at.result _ c.in_ok-relay.relay c.args.n1.octets c.args.line.now c.go_on_at.new.self c.go_on_at.ensures.begins c.go_on_at.ensures.err
