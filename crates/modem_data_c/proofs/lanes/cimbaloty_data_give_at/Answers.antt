-- It took octets.
use Rattle.std.specs.Prelude.{◌≡◌, Option, true}
use Rattle.std.proofs.Common.{sym, subst}
use Rattle.mux_station.specs.Opening.{is_open}
use Rattle.modem_data.specs.Switching.{takes_given}
use Rattle.modem_data.specs.Passing.{carries, wire}
use Rattle.modem_data.specs.PipeSets.{OfEachPast}
use Rattle.modem_data.specs.Hops.{Relay}
use Rattle.modem_data_c.specs.DataCalls.{HoldsRelay}
use Rattle.modem_data_c.proofs.lanes.cimbaloty_data_give_at.Goals as goal

pub returns-clause-lets : goal.returns-clause-lets
returns-clause-lets c = λ e.
    let Lets : Relay → Type 0 = λ r. OfEachPast r.pipes (λ role past. (is_open role c.args.dlci (wire past) ≡ true) × (takes_given (carries role c.args.dlci past) ≡ true)) in
    subst (λ (h : Option Relay). HoldsRelay h Lets) (sym c.in-Some.ensures.what) (subst Lets c.deref_mut.ensures.value (c.give-answer.ensures.lets e))
