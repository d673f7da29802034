use Rattle.std.proofs.Common.{◌∙◌, sym, subst}
use Rattle.line_end.specs.LineEnds.{LineEnd}
use Rattle.modem_sim.specs.Acts.{any_act}
use Rattle.modem_sim.specs.Sims.{SimMachine, SimMachineGoes}
use Rattle.modem_sim.proofs.sims.SimPasts.{machine_fed}
use Rattle.modem_sim.specs.Stills.{Feeds, FeedsNone}
use Rattle.modem_sim.proofs.sims.TurnParts.{feeds_empty, feeds_none, feeds_some}
use Rattle.modem_sim.proofs.sims.MachineParts.{machine_of}
use Rattle.modem_sim.proofs.sim_machine.SimMachine.feed.Goals as goal

pub returns-clause-goes : goal.returns-clause-goes
returns-clause-goes c =
    let k = c.self.inside in
    let old : SimMachine = machine_of k.core k.line_end k.end in
    let e = c.feed.ensures in
    let new : LineEnd → SimMachine = λ l. machine_of k.core l k.end in
    subst (λ (v : SimMachine). SimMachineGoes any_act v (new c.feed.new.self)) c.self.view_is
    (subst (λ (l : LineEnd). SimMachineGoes any_act old (new l)) (sym e.rest)
    (machine_fed old c.feed.new.self.deframer c.feed.result e.past e.n1))

pub returns-then-is_fed-clause-feeds : goal.returns-then-is_fed-clause-feeds
returns-then-is_fed-clause-feeds c =
    let k = c.self.inside in
    let old : SimMachine = machine_of k.core k.line_end k.end in
    subst (λ (v : SimMachine). Feeds v v) c.self.view_is (feeds_empty old (sym c.is_fed.ensures ∙ c.if-is_fed.true))

pub returns-clause-feeds : goal.returns-clause-feeds
returns-clause-feeds c =
    let k = c.self.inside in
    let old : SimMachine = machine_of k.core k.line_end k.end in
    let e = c.feed.ensures in
    let new : LineEnd → SimMachine = λ l. machine_of k.core l k.end in
    subst (λ (v : SimMachine). Feeds v (new c.feed.new.self)) c.self.view_is
    (subst (λ (l : LineEnd). Feeds old (new l)) (sym e.rest)
    (feeds_some old c.feed.new.self.deframer c.feed.result e.past e.n1 e.some e.stays))

pub returns-clause-none : goal.returns-clause-none
returns-clause-none c = λ none.
    let k = c.self.inside in
    let old : SimMachine = machine_of k.core k.line_end k.end in
    let e = c.feed.ensures in
    let new : LineEnd → SimMachine = λ l. machine_of k.core l k.end in
    subst (λ (v : SimMachine). FeedsNone v (new c.feed.new.self)) c.self.view_is
    (subst (λ (l : LineEnd). FeedsNone old (new l)) (sym e.rest)
    (feeds_none old c.feed.new.self.deframer c.feed.result e.past e.n1 e.some e.stays none (sym c.is_fed.ensures ∙ c.if-is_fed.false)))
