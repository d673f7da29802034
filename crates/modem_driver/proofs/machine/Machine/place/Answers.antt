-- Outcomes and lines were offered, one after the other.
use Rattle.std.proofs.Common.{sym, subst, List, ◌||◌}
use Rattle.modem_desk.specs.declared.request.Outcome.{Outcome}
use Rattle.modem_desk.specs.declared.request.Urc.{Urc}
use Rattle.modem_history.specs.Sessions.{LineView}
use Rattle.modem_core.specs.Placing.{Placed, caller_of, IsRingOf, IsCaller, IsListenerOf, IsHeard, caller_rings, listener_rings}
use Rattle.modem_queues.specs.LineQueues.{place_of}
use Rattle.modem_driver.specs.SessionStates.{Machine}
use Rattle.modem_driver.specs.TurnSteps.{Places, turn_state}
use Rattle.modem_driver.proofs.sessions.steps.DeskOffers.{places}
use Rattle.modem_driver.proofs.sessions.steps.MachineParts.{machine_of}
use Rattle.modem_driver.proofs.machine.Machine.place.Goals as goal

pub returns : goal.returns
returns c =
    let k = c.self.inside in
    let old : Machine = machine_of k in
    let d = c.args.driver.now in
    let m = c.place_outcomes-told.new.driver in
    let e = c.place_lines-announced.new.driver in
    let told = c.place_outcomes-told.result in
    let announced = c.place_lines-announced.result in
    let one = c.place_outcomes-told.ensures in
    let other = c.place_lines-announced.ensures in
    let left = c.place_lines-announced.new.self in
    subst (λ (v : Machine). (l : LineView) → Places (turn_state l d v) (turn_state l e (record old { unplaced = left.outcomes; unannounced = left.lines })) (told || announced)) c.self.view_is
    (places d m e old left.outcomes left.lines told announced
    (subst (λ (os : List Outcome). Placed caller_of IsRingOf (IsCaller d.desk) (caller_rings d) (caller_rings m) k.waiting.outcomes os told) (sym other.outcomes) one.placed) one.alone
    (subst (λ (us : List Urc). Placed place_of (IsListenerOf m.desk.kinds) (IsHeard m.desk.kinds) (listener_rings m) (listener_rings e) us left.lines announced) one.lines other.placed) other.alone)
