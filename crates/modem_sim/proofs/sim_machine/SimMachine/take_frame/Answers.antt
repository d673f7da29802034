use Rattle.std.proofs.Common.{ap, sym, ◌∙◌, subst}
use Rattle.mux_frame.specs.Frames.{frame_of}
use Rattle.mux_frame.specs.Deframing.{HandsOver}
use Rattle.mux_station.specs.Sending.{got_refused}
use Rattle.mux_station.specs.Stations.{seen_in, setting_of}
use Rattle.line_end.specs.LineEnds.{LineEnd}
use Rattle.modem_sim.specs.Acts.{any_act}
use Rattle.modem_sim.specs.Sims.{SimMachine, SimMachineGoes}
use Rattle.modem_sim.specs.Stills.{TakesFrame}
use Rattle.modem_sim.proofs.sims.SimPasts.{machine_took, none_so, takes_frame}
use Rattle.modem_sim.proofs.sims.MachineParts.{machine_of}
use Rattle.modem_sim.proofs.sim_machine.SimMachine.take_frame.Goals as goal

pub returns-clause-goes : goal.returns-clause-goes
returns-clause-goes c =
    let k = c.self.inside in
    let old : SimMachine = machine_of k.core k.line_end k.end in
    let new : LineEnd → SimMachine = λ l. machine_of c.got.new.self l k.end in
    let same = c.peek.follows.holds-at-none in
    let e = c.advance.ensures in
    let fed = c.advance.new.self.deframer in
    let passed = e.rest ∙ ap (λ (l : LineEnd). record l { deframer = fed }) same in
    subst (λ (v : SimMachine). SimMachineGoes any_act v (new c.advance.new.self)) c.self.view_is
    (subst (λ (l : LineEnd). SimMachineGoes any_act old (new l)) (sym passed)
    (machine_took old c.got.new.self fed (frame_of c.in-Some.frame) (sym c.in-Some.ensures.frame)
    (c.in_ok-got.ensures.took c.if-not-branch.false)
    (subst (λ (l : LineEnd). HandsOver l.deframer fed) same e.past) (e.n1 ∙ ap (λ (l : LineEnd). l.deframer.n1) same)))

pub returns-clause-takes : goal.returns-clause-takes
returns-clause-takes c = λ _.
    let k = c.self.inside in
    let old : SimMachine = machine_of k.core k.line_end k.end in
    let new : LineEnd → SimMachine = λ l. machine_of c.got.new.self l k.end in
    let same = c.peek.follows.holds-at-none in
    let e = c.advance.ensures in
    let fed = c.advance.new.self.deframer in
    let passed = e.rest ∙ ap (λ (l : LineEnd). record l { deframer = fed }) same in
    subst (λ (v : SimMachine). TakesFrame v (new c.advance.new.self)) c.self.view_is
    (subst (λ (l : LineEnd). TakesFrame old (new l)) (sym passed)
    (takes_frame old c.got.new.self fed (frame_of c.in-Some.frame) (sym c.in-Some.ensures.frame)
    (c.in_ok-got.ensures.took c.if-not-branch.false)
    (subst (λ (l : LineEnd). HandsOver l.deframer fed) same e.past) (e.n1 ∙ ap (λ (l : LineEnd). l.deframer.n1) same)
    (none_so (got_refused (setting_of k.core.station) (seen_in k.core.station) (frame_of c.in-Some.frame)) (sym c.in_ok-got.ensures.room ∙ c.if-not-branch.false))))
