-- What was sent went at once, or was given and then what waits went.
use Rattle.std.specs.Prelude.{◌≡◌, ◌≤◌, ◌+◌, length, take, true}
use Rattle.std.proofs.Common.{subst, inr}
use Rattle.mux_station.specs.Opening.{is_open}
use Rattle.modem_data.specs.DataLanes.{most_to_go}
use Rattle.modem_data.specs.Switching.{takes_given}
use Rattle.modem_data.specs.Passing.{Gave, carries, to_go, wire}
use Rattle.modem_data.specs.PipeSets.{OfEachPast}
use Rattle.modem_data.specs.Hops.{Relay, Hops, Passed, sent}
use Rattle.modem_data.proofs.Through.{few_taken, free_lets, full_where_none, full_with_taken, still_holds}
use Rattle.modem_data.proofs.relay.Relay.send.Goals as goal

pub returns-in-Some-clause-all : goal.returns-in-Some-clause-all
returns-in-Some-clause-all c = λ none there. still_holds c.args.self.now c.way_through.new.self c.pass_all_through.new.self c.in-Some.place c.args.dlci.number c.deframed.ensures c.in-Some.ensures.way c.way_through.ensures.same (c.pass_all_through.ensures.none none)

pub returns-clause-sends : goal.returns-clause-sends
returns-clause-sends c =
    let d = c.args.dlci.number in
    let gave = take c.in_ok-taken.taken c.args.octets.now in
    let gives = subst (λ (v : Relay). Hops v c.give.new.self (Passed (Gave d gave))) c.way_through.ensures.same c.in_ok-taken.ensures.gave in
    sent c.args.self.now c.give.new.self c.put_out-count.new.self d gave (take c.put_out-count.result c.put_out-count.new.room) gives c.put_out-count.ensures.goes

pub returns-clause-taken : goal.returns-clause-taken
returns-clause-taken c = subst (λ (v : Relay). OfEachPast v.pipes (λ role past. c.in_ok-taken.taken ≤ length c.args.octets.now)) c.way_through.ensures.same (few_taken c.way_through.new.self.pipes c.args.dlci.number c.in_ok-taken.taken (length c.args.octets.now) c.in_ok-taken.ensures.count)

pub returns-clause-some : goal.returns-clause-some
returns-clause-some c = λ none some. subst (λ (v : Relay). OfEachPast v.pipes (λ role past. most_to_go ≤ to_go c.args.dlci.number past)) c.way_through.ensures.same (full_where_none c.way_through.new.self.pipes c.args.dlci.number c.in_ok-taken.taken (length c.args.octets.now) c.in_ok-taken.ensures.count none some)

pub returns-in-Some-clause-lets : goal.returns-in-Some-clause-lets
returns-in-Some-clause-lets c = free_lets c.args.self.now.pipes c.in-Some.place c.args.dlci.number c.in-Some.ensures.way.free

pub returns-clause-rest : goal.returns-clause-rest
returns-clause-rest c = λ fewer. inr (subst (λ (v : Relay). OfEachPast v.pipes (λ role past. most_to_go ≤ to_go c.args.dlci.number past + c.in_ok-taken.taken)) c.way_through.ensures.same (full_with_taken c.way_through.new.self.pipes c.args.dlci.number c.in_ok-taken.taken (length c.args.octets.now) c.in_ok-taken.ensures.count fewer))

pub returns-clause-lets : goal.returns-clause-lets
returns-clause-lets c =
    let d = c.args.dlci.number in
    subst (λ (v : Relay). OfEachPast v.pipes (λ role past. (is_open role d (wire past) ≡ true) × (takes_given (carries role d past) ≡ true))) c.way_through.ensures.same c.in_ok-taken.ensures.lets
