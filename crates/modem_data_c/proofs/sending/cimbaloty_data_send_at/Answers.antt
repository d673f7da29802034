-- It took octets.
use Rattle.std.specs.Prelude.{◌≡◌, ◌⊎◌, ◌<◌, ◌≤◌, ◌+◌, length, Option, true}
use Rattle.std.proofs.Common.{sym, subst}
use Rattle.mux_station.specs.Opening.{is_open}
use Rattle.modem_data.specs.DataLanes.{most_to_go}
use Rattle.modem_data.specs.Switching.{takes_given}
use Rattle.modem_data.specs.Passing.{carries, to_go, wire}
use Rattle.modem_data.specs.PipeSets.{OfEachPast}
use Rattle.modem_data.specs.Hops.{Relay}
use Rattle.modem_data_c.specs.DataCalls.{HoldsRelay}
use Rattle.modem_data_c.proofs.sending.cimbaloty_data_send_at.Goals as goal

pub returns-clause-lets : goal.returns-clause-lets
returns-clause-lets c = λ e.
    let Lets : Relay → Type 0 = λ r. OfEachPast r.pipes (λ role past. (is_open role c.args.dlci (wire past) ≡ true) × (takes_given (carries role c.args.dlci past) ≡ true)) in
    subst (λ (h : Option Relay). HoldsRelay h Lets) (sym c.in-Some.ensures.what) (subst Lets c.deref_mut.ensures.value (c.send-answer.ensures.lets e))

pub returns-clause-rest : goal.returns-clause-rest
returns-clause-rest c = λ e fewer.
    let sent = c.send-answer.new.sent in
    let Rest : Relay → Type 0 = λ r. (length c.args.room.now < sent.count + (r.outer.n1 + 7)) ⊎ OfEachPast r.pipes (λ role past. most_to_go ≤ to_go c.args.dlci past + sent.taken) in
    subst (λ (h : Option Relay). HoldsRelay h Rest) (sym c.in-Some.ensures.what) (subst Rest c.deref_mut.ensures.value (c.send-answer.ensures.rest e fewer))
