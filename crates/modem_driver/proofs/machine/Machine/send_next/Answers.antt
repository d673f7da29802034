-- What goes out is written.
use Rattle.std.proofs.Common.{◌≡◌, sym, subst, []}
use Rattle.line_end.specs.LineEnds.{LineEnd}
use Rattle.mux_station.specs.GivenFrames.{outgoing_of}
use Rattle.modem_core.specs.Cores.{Core}
use Rattle.modem_driver.specs.SessionStates.{Machine}
use Rattle.modem_driver.specs.SendingSteps.{MachineSends}
use Rattle.modem_driver.proofs.sessions.steps.NextFrame.{send_goes}
use Rattle.modem_driver.proofs.sessions.steps.MachineParts.{at_end, machine_of}
use Rattle.modem_driver.proofs.machine.Machine.send_next.Goals as goal

pub returns-clause-sends : goal.returns-clause-sends
returns-clause-sends c =
    let k = c.self.inside in
    let old : Machine = machine_of k in
    let none : old.unwritten ≡ [] = subst (λ (v : Machine). v.unwritten ≡ []) (sym c.self.view_is) c.requires.none in
    let e = c.give-outgoing.ensures in
    let out = c.put.new.self.unwritten in
    let lent = c.give-outgoing.follows.lender-at-none in
    let new : LineEnd → Machine = λ l. at_end (record old { core = lent }) l in
    subst (λ (v : Machine). MachineSends v (new c.put.new.self) c.give-outgoing.result.fresh) c.self.view_is
    (subst (λ (l : LineEnd). MachineSends old (new l) c.give-outgoing.result.fresh) (sym c.put.ensures.rest)
    (subst (λ (v : Core). MachineSends old (record old { core = v; unwritten = out }) c.give-outgoing.result.fresh) (sym c.give-outgoing.follows.holds-at-none)
    (send_goes old (outgoing_of c.give-outgoing.result) out none e.short e.frame e.past e.holds c.put.ensures.some c.put.ensures.octets)))
