-- Driver, modem and callers come back from their threads, still at their line and of their desk.
use Rattle.std.proofs.Common.{◌≡◌, ◌∙◌, List, map, refl, subst, sym}
use Rattle.std.specs.Prelude.{vec_items}
use Rattle.std.specs.declared.vec.Vec.{Vec}
use Rattle.std.specs.declared.alloc.Global.{Global}
use Rattle.serial_line.specs.OtherSide.{AreOpposite, OtherSide}
use Rattle.modem_desk.specs.Ends.{AreSubscribed, CallerView, DeskId, Place, IsWhole, subscription_of, place_of}
use Rattle.modem_desk.specs.declared.request.Outcome.{Outcome}
use Rattle.modem_bench.specs.Driving.{WasSettled}
use Rattle.modem_bench.specs.Lines.{AreConnected}
use Rattle.modem_bench.specs.Running.{RanFor}
use Rattle.modem_bench.specs.declared.calling.Worked.{Worked}
use Rattle.modem_bench.proofs.Settlements.{ran_for}
use Rattle.modem_bench.proofs.CallerThreads.{called_places, maps_through, ok_three}
use Rattle.modem_bench.proofs.running.run_threads.Goals as goal

pub settle_run-requires-clause-one_line : goal.settle_run-requires-clause-one_line
settle_run-requires-clause-one_line g c =
    let near = c.in_ok-back.ensures.stopped.same_line in
    let far = c.in_ok-back.ensures.ended.same_line in
    subst (λ (x : OtherSide × OtherSide). AreOpposite x.0 x.1) (λ i. (sym near i, sym far i)) c.requires.one_line

pub settle_run-requires-clause-callers : goal.settle_run-requires-clause-callers
settle_run-requires-clause-callers g c =
    let b = c.in_ok-back.back in
    let desk : b.session.driver.desk ≡ c.args.ends.session.driver.desk = c.in_ok-back.ensures.stopped.driven.takes.desk in
    let cs : List CallerView = map (λ (w : Worked). w.caller) b.worked.items in
    let places : map place_of cs ≡ map place_of c.args.ends.callers.items =
    maps_through b.worked.items cs refl
    ∙ called_places c.args.submissions.now c.args.ends.callers.items b.worked.items c.in_ok-back.ensures.called in
    subst (λ (x : DeskId × List Place). IsWhole x.0 x.1) (λ i. (sym desk i, sym places i)) c.requires.callers

pub settle_run-requires-clause-listeners : goal.settle_run-requires-clause-listeners
settle_run-requires-clause-listeners g c =
    let desk : c.in_ok-back.back.session.driver.desk ≡ c.args.ends.session.driver.desk = c.in_ok-back.ensures.stopped.driven.takes.desk in
    subst (λ (d : DeskId). AreSubscribed d (map subscription_of c.args.ends.listeners.items)) (sym desk) c.requires.listeners

pub returns : goal.returns
returns g c =
    let look = g.L.SerialLine.seen in
    let s1 = c.in_ok-back.back.session in
    let m1 = c.in_ok-back.back.sim in
    let ws = c.in_ok-back.back.worked.items in
    let ls = c.args.ends.listeners.items in
    let cs : List CallerView = map (λ (w : Worked). w.caller) ws in
    let on = c.in_ok-back.ensures.stopped.driven in
    let called = c.in_ok-back.ensures.called in
    let places : map place_of cs ≡ map place_of c.args.ends.callers.items =
    maps_through ws cs refl ∙ called_places c.args.submissions.now c.args.ends.callers.items ws called in
    ok_three (λ (os : Vec (Vec Outcome Global) Global). os.items ≡ map (λ (w : Worked). w.outcomes) ws)
    (AreConnected (look s1.line) (look m1.line))
    (λ (os : Vec (Vec Outcome Global) Global). WasSettled look s1 cs ls)
    (λ (os : Vec (Vec Outcome Global) Global). RanFor look c.args.submissions.now c.args.ends.callers.items c.args.ends.session c.args.ends.sim (map vec_items os.items))
    c.settle_run.result
    (λ os outcomes connected over. ran_for look c.args.submissions.now c.args.ends.callers.items cs ws os.items
    c.args.ends.session s1 c.args.ends.sim m1 ls over.settled
    called refl outcomes c.requires.begun on c.in_ok-back.ensures.ended.simulated connected
    (subst (λ (x : DeskId × List Place). IsWhole x.0 x.1) (λ i. (sym on.takes.desk i, sym places i)) c.requires.callers)
    (subst (λ (d : DeskId). AreSubscribed d (map subscription_of ls)) (sym on.takes.desk) c.requires.listeners)
    over.over)
    c.settle_run.ensures.outcomes c.settle_run.ensures.connected c.settle_run.ensures.over
