-- The octets that the deframer took wait no more.
use Rattle.std.proofs.Common.{sym, subst, refl, arith}
use Rattle.line_end.specs.LineEnds.{LineEnd}
use Rattle.modem_driver.specs.SessionStates.{Machine}
use Rattle.modem_driver.specs.SessionTurns.{Feeds}
use Rattle.modem_driver.proofs.sessions.steps.MachineParts.{at_end, machine_of}
use Rattle.modem_driver.proofs.machine.Machine.feed.Goals as goal

pub returns : goal.returns
returns c =
    let k = c.self.inside in
    let old : Machine = machine_of k in
    let n = c.feed.result in
    let e = c.feed.ensures in
    let count = e.count in
    subst (λ (v : Machine). Feeds v (at_end old c.feed.new.self) n) c.self.view_is
    (subst (λ (l : LineEnd). Feeds old (at_end old l) n) (sym e.rest)
    (record {
      takes = e.past;
      bound = e.n1;
      few = omega (arith, count);
      some = e.some;
      frame_stays = e.stays;
      stays = refl;
    }))
