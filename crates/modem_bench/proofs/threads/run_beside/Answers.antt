-- The session and the simulated modem that come back are those that were sent out.
use Rattle.std.proofs.Common.{◌≡◌, subst}
use Rattle.std.proofs.lemmas.Result.{IfOk-at_ok}
use Rattle.std.specs.declared.alloc.Global.{Global}
use Rattle.std.specs.declared.vec.Vec.{Vec}
use Rattle.modem_driver.specs.SessionStates.{SessionState}
use Rattle.modem_sim.specs.Sims.{SimState}
use Rattle.modem_bench.specs.Driving.{StopsAtLine}
use Rattle.modem_bench.specs.Simulating.{EndsAtLine}
use Rattle.modem_bench.specs.declared.calling.Worked.{Worked}
use Rattle.modem_bench.proofs.threads.run_beside.Goals as goal

pub returns-clause-stopped : goal.returns-clause-stopped
returns-clause-stopped g c =
    let look = g.L.SerialLine.seen in
    let side = g.L.SerialLine.other_side in
    let was : c.in_ok-driving.driving.promise.0.value ≡ c.args.session =
    IfOk-at_ok (λ h. h.promise.0.value ≡ c.args.session) c.in_ok-driving.ensures.made c.send_driver.ensures in
    subst (λ (s : SessionState g.row.L.Denot). StopsAtLine look side s c.in_ok-session.session) was
    (IfOk-at_ok (StopsAtLine look side c.in_ok-driving.driving.promise.0.value) c.in_ok-session.ensures.first c.join.ensures)

pub returns-clause-ended : goal.returns-clause-ended
returns-clause-ended g c =
    let look = g.L.SerialLine.seen in
    let side = g.L.SerialLine.other_side in
    subst (λ (m : SimState g.row.L.Denot). EndsAtLine look side m c.in_ok-session.sim) c.in_ok-driving.ensures.kept
    (IfOk-at_ok (λ (r : SimState g.row.L.Denot × Vec Worked Global). EndsAtLine look side c.in_ok-driving.sim r.0) c.in_ok-session.ensures.second c.call_modem-called.ensures.ended)
