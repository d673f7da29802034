-- Session and modem were made at the ends of the line, and the callers and the listeners were kept beside them.
use Rattle.std.proofs.Common.{◌≡◌, List, ap, map, subst, sym}
use Rattle.std.proofs.lemmas.Result.{IfOk-at_ok}
use Rattle.std.specs.Prelude.{[], Ok}
use Rattle.std.specs.declared.alloc.Global.{Global}
use Rattle.std.specs.declared.vec.Vec.{Vec}
use Rattle.modem_desk.specs.Ends.{AreSubscribed, CallerView, DriverView, IsWhole, ListenerView, subscription_of, place_of}
use Rattle.modem_driver.specs.SessionStates.{FitsAll, SessionState, beginning_of}
use Rattle.modem_sim.specs.Sims.{SimState}
use Rattle.modem_bench.specs.Running.{AreFresh}
use Rattle.modem_bench.proofs.Settlements.{begins}
use Rattle.modem_bench.proofs.ends.begin.Goals as goal

abbrev Kept : Type 0
Kept = Vec CallerView Global × Vec ListenerView Global

pub returns-clause-many : goal.returns-clause-many
returns-clause-many g c =
    let callers : c.in_ok-session.callers.items ≡ c.in_ok-driver.callers.items = ap (λ (k : Kept). k.0.items) c.in_ok-session.ensures.kept in
    subst (AreFresh c.args.callers) (sym callers) (record {
      many = c.in_ok-driver.ensures.callers.0;
      fresh = λ i a at. (c.in_ok-driver.ensures.callers.1 i a at).3;
    })

pub returns-clause-begun : goal.returns-clause-begun
returns-clause-begun g c =
    let look = g.L.SerialLine.seen in
    let s = c.in_ok-session.session in
    let made : c.make_session-session.result ≡ Ok s =
    IfOk-at_ok (λ (r : SessionState g.row.L.Denot × SimState g.row.L.Denot). c.make_session-session.result ≡ Ok r.0) c.in_ok-session.ensures.made c.both.ensures.first in
    let fits = IfOk-at_ok (λ (t : SessionState g.row.L.Denot). FitsAll (beginning_of 31 (look c.args.line.0) c.in_ok-driver.driver) look t []) made c.make_session-session.ensures.begins in
    let same = IfOk-at_ok (λ (t : SessionState g.row.L.Denot). (t.line ≡ c.args.line.0) × (t.driver ≡ c.in_ok-driver.driver)) made c.make_session-session.ensures.same in
    begins look (look c.args.line.0) c.args.callers [] 1 c.in_ok-driver.driver c.in_ok-driver.callers.items c.in_ok-driver.listeners.items s c.in_ok-driver.ensures fits same.1

pub returns-clause-callers : goal.returns-clause-callers
returns-clause-callers g c =
    let s = c.in_ok-session.session in
    let made : c.make_session-session.result ≡ Ok s =
    IfOk-at_ok (λ (r : SessionState g.row.L.Denot × SimState g.row.L.Denot). c.make_session-session.result ≡ Ok r.0) c.in_ok-session.ensures.made c.both.ensures.first in
    let same = IfOk-at_ok (λ (t : SessionState g.row.L.Denot). (t.line ≡ c.args.line.0) × (t.driver ≡ c.in_ok-driver.driver)) made c.make_session-session.ensures.same in
    let callers : c.in_ok-session.callers.items ≡ c.in_ok-driver.callers.items = ap (λ (k : Kept). k.0.items) c.in_ok-session.ensures.kept in
    let driver : s.driver ≡ c.in_ok-driver.driver = same.1 in
    subst (λ (x : DriverView × List CallerView). IsWhole x.0.desk (map place_of x.1)) (λ i. (sym driver i, sym callers i)) c.in_ok-driver.ensures.whole

pub returns-clause-listeners : goal.returns-clause-listeners
returns-clause-listeners g c =
    let s = c.in_ok-session.session in
    let made : c.make_session-session.result ≡ Ok s =
    IfOk-at_ok (λ (r : SessionState g.row.L.Denot × SimState g.row.L.Denot). c.make_session-session.result ≡ Ok r.0) c.in_ok-session.ensures.made c.both.ensures.first in
    let same = IfOk-at_ok (λ (t : SessionState g.row.L.Denot). (t.line ≡ c.args.line.0) × (t.driver ≡ c.in_ok-driver.driver)) made c.make_session-session.ensures.same in
    let listeners : c.in_ok-session.listeners.items ≡ c.in_ok-driver.listeners.items = ap (λ (k : Kept). k.1.items) c.in_ok-session.ensures.kept in
    let driver : s.driver ≡ c.in_ok-driver.driver = same.1 in
    subst (λ (x : DriverView × List ListenerView). AreSubscribed x.0.desk (map subscription_of x.1)) (λ i. (sym driver i, sym listeners i)) c.in_ok-driver.ensures.subscribed
