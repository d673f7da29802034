-- A request was refused, and then outcomes and lines were offered.
use Rattle.std.proofs.Common.{sym, subst, List}
use Rattle.modem_desk.specs.declared.request.Outcome.{Outcome}
use Rattle.modem_desk.specs.declared.request.Urc.{Urc}
use Rattle.modem_core.specs.Placing.{Placed, caller_of, IsRingOf, IsCaller, IsListenerOf, IsHeard, caller_rings, listener_rings}
use Rattle.modem_queues.specs.LineQueues.{place_of}
use Rattle.modem_driver.specs.TurningAway.{Offline, PassesAway}
use Rattle.modem_driver.proofs.sessions.polls.OfflinePasses.{passes}
use Rattle.modem_driver.proofs.session.offline.Offline.turn_away.Goals as goal

pub returns : goal.returns
returns g c =
    let w = c.self.inside.waiting in
    let b = c.args.driver.now in
    let one = c.refuse_one-took in
    let two = c.place_outcomes-told in
    let three = c.place_lines-announced in
    let mid = one.new.waiting in
    let left = three.new.self in
    let d = one.new.driver in
    let m = two.new.driver in
    let e = three.new.driver in
    subst (λ (v : Offline). PassesAway v (record { unplaced = left.outcomes; unannounced = left.lines }) b e c.answer.result) c.self.view_is
    (passes b d m e w mid left.outcomes left.lines one.result two.result three.result c.answer.result one.ensures
    (subst (λ (os : List Outcome). Placed caller_of IsRingOf (IsCaller d.desk) (caller_rings d) (caller_rings m) mid.outcomes os two.result) (sym three.ensures.outcomes) two.ensures.placed) two.ensures.alone
    (subst (λ (us : List Urc). Placed place_of (IsListenerOf m.desk.kinds) (IsHeard m.desk.kinds) (listener_rings m) (listener_rings e) us left.lines three.result) two.ensures.lines three.ensures.placed) three.ensures.alone
    c.answer.ensures)
