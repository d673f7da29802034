-- The relay's refusal is the pair's.
use Rattle.std.specs.Prelude.{◌≡◌, ◌≢◌, Err}
use Rattle.std.proofs.Common.{subst}
use Rattle.modem_data.specs.declared.error.DataError.TheVariants as error
use Rattle.modem_data.specs.Switching.{Idle}
use Rattle.modem_data.specs.Passing.{carries, data_came, data_read}
use Rattle.modem_data.specs.PipeSets.{OfEachPast}
use Rattle.modem_data_endpoint.specs.Pairs.{Pair}
use Rattle.modem_data_endpoint.proofs.data_endpoint.DataEndpoint.begin.Goals as goal

pub returns-clause-unread : goal.returns-clause-unread
returns-clause-unread c =
    subst (λ (p : Pair). c.begin.result ≡ Err error.Unread → OfEachPast p.relay.pipes (λ role past. (carries role c.args.dlci.number past ≡ Idle) × (data_read c.args.dlci.number past ≢ data_came role c.args.dlci.number past))) c.self.view_is c.begin.ensures.unread
