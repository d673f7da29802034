-- The callers that have worked are those that the desk is settled with.
use Rattle.std.proofs.Common.{◌≡◌, List, ap, map, subst, sym}
use Rattle.std.proofs.lemmas.Result.{IfOk-at_ok}
use Rattle.std.specs.declared.alloc.Global.{Global}
use Rattle.std.specs.declared.vec.Vec.{Vec}
use Rattle.serial_line.specs.OtherSide.{AreOpposite}
use Rattle.modem_desk.specs.Ends.{AreSubscribed, CallerView, DeskId, IsWhole, subscription_of, place_of}
use Rattle.modem_desk.specs.declared.request.Outcome.{Outcome}
use Rattle.modem_driver.specs.SessionStates.{SessionState}
use Rattle.modem_sim.specs.Sims.{SimState}
use Rattle.modem_bench.specs.Driving.{IsOver}
use Rattle.modem_bench.specs.Lines.{AreConnected}
use Rattle.modem_bench.specs.declared.calling.Worked.{Worked}
use Rattle.modem_bench.proofs.settling.settle_run.Goals as goal

abbrev Parts : Type 0
Parts = Vec CallerView Global × Vec (Vec Outcome Global) Global

abbrev Kept : (X : Type 0) → Type 0
Kept X = SessionState X × SimState X

pub end_run-requires-clause-one_line : goal.end_run-requires-clause-one_line
end_run-requires-clause-one_line g c =
    let side = g.L.SerialLine.other_side in
    subst (λ (k : Kept g.row.L.Denot). AreOpposite (side k.0.line) (side k.1.line)) (sym c.in_ok-callers.ensures.kept) c.requires.one_line

pub end_run-requires-clause-callers : goal.end_run-requires-clause-callers
end_run-requires-clause-callers g c =
    let desk : c.in_ok-callers.session.driver.desk ≡ c.args.back.session.driver.desk = ap (λ (k : Kept g.row.L.Denot). k.0.driver.desk) c.in_ok-callers.ensures.kept in
    let callers : c.in_ok-callers.callers.items ≡ map (λ (w : Worked). w.caller) c.args.back.worked.items =
    IfOk-at_ok (λ (r : Parts). r.0.items ≡ map (λ (w : Worked). w.caller) c.args.back.worked.items) c.in_ok-callers.ensures.made c.parted.ensures.callers in
    subst (λ (x : DeskId × List CallerView). IsWhole x.0 (map place_of x.1)) (λ i. (sym desk i, sym callers i)) c.requires.callers

pub end_run-requires-clause-listeners : goal.end_run-requires-clause-listeners
end_run-requires-clause-listeners g c =
    let desk : c.in_ok-callers.session.driver.desk ≡ c.args.back.session.driver.desk = ap (λ (k : Kept g.row.L.Denot). k.0.driver.desk) c.in_ok-callers.ensures.kept in
    subst (λ (d : DeskId). AreSubscribed d (map subscription_of c.args.listeners.items)) (sym desk) c.requires.listeners

pub returns-clause-outcomes : goal.returns-clause-outcomes
returns-clause-outcomes g c =
    IfOk-at_ok (λ (r : Parts). r.1.items ≡ map (λ (w : Worked). w.outcomes) c.args.back.worked.items) c.in_ok-callers.ensures.made c.parted.ensures.outcomes

pub returns-clause-connected : goal.returns-clause-connected
returns-clause-connected g c =
    let look = g.L.SerialLine.seen in
    subst (λ (k : Kept g.row.L.Denot). AreConnected (look k.0.line) (look k.1.line)) c.in_ok-callers.ensures.kept c.end_run.ensures.connected

pub returns-clause-over : goal.returns-clause-over
returns-clause-over g c =
    let look = g.L.SerialLine.seen in
    let callers : c.in_ok-callers.callers.items ≡ map (λ (w : Worked). w.caller) c.args.back.worked.items =
    IfOk-at_ok (λ (r : Parts). r.0.items ≡ map (λ (w : Worked). w.caller) c.args.back.worked.items) c.in_ok-callers.ensures.made c.parted.ensures.callers in
    let kept : c.in_ok-callers.session ≡ c.args.back.session = ap (λ (k : Kept g.row.L.Denot). k.0) c.in_ok-callers.ensures.kept in
    record {
      settled = c.in_ok-settled.settled;
      over = subst (λ (x : SessionState g.row.L.Denot × List CallerView). IsOver look x.0 x.1 c.args.listeners.items c.in_ok-settled.settled) (λ i. (kept i, callers i)) c.in_ok-settled.ensures.over;
    }
