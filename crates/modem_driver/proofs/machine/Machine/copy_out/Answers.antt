-- What was copied went out.
use Rattle.std.proofs.Common.{sym, subst, take}
use Rattle.line_end.specs.LineEnds.{LineEnd}
use Rattle.modem_driver.specs.SessionStates.{Machine}
use Rattle.modem_driver.specs.EndpointSteps.{CopiesOut}
use Rattle.modem_driver.proofs.endpoints.GivenOctets.{copies}
use Rattle.modem_driver.proofs.sessions.steps.MachineParts.{at_end, machine_of}
use Rattle.modem_driver.proofs.machine.Machine.copy_out.Goals as goal

pub returns-clause-out : goal.returns-clause-out
returns-clause-out c =
    let k = c.self.inside in
    let old : Machine = machine_of k in
    let n = c.copy_to-count.result in
    subst (λ (v : Machine). CopiesOut v (at_end old c.pass.new.self) (take n v.unwritten)) c.self.view_is
    (subst (λ (l : LineEnd). CopiesOut old (at_end old l) (take n old.unwritten)) (sym c.pass.ensures) (copies old n))
