-- It wasn't read.
use Rattle.std.specs.Prelude.{◌≡◌, ◌≢◌, Option}
use Rattle.std.proofs.Common.{sym, subst}
use Rattle.modem_data.specs.Switching.{Idle}
use Rattle.modem_data.specs.Passing.{carries, data_came, data_read}
use Rattle.modem_data.specs.PipeSets.{OfEachPast}
use Rattle.modem_data.specs.Hops.{Relay}
use Rattle.modem_data_c.specs.DataCalls.{HoldsRelay}
use Rattle.modem_data_c.proofs.lanes.cimbaloty_data_begin.Goals as goal

pub returns-clause-unread : goal.returns-clause-unread
returns-clause-unread c = λ e.
    let Unread : Relay → Type 0 = λ r. OfEachPast r.pipes (λ role past. (carries role c.args.dlci past ≡ Idle) × (data_read c.args.dlci past ≢ data_came role c.args.dlci past)) in
    subst (λ (h : Option Relay). HoldsRelay h Unread) (sym c.in-Some-take.ensures.what) (subst Unread c.deref_mut.ensures.value (c.begin-answer.ensures.unread e))
