use Rattle.std.proofs.Common.{◌∙◌, refl, nat_lt, false, sym, subst}
use Rattle.line_end.specs.LineEnds.{LineEnd}
use Rattle.modem_sim.specs.Sims.{SimMachine}
use Rattle.modem_sim.specs.Stills.{ReadsOnce}
use Rattle.modem_sim.proofs.sims.TurnParts.{reads_nothing, reads_some}
use Rattle.modem_sim.proofs.sims.MachineParts.{machine_of}
use Rattle.modem_sim.proofs.sim_machine.SimMachine.receive.Goals as goal

pub returns-then-not-is_fed-clause-reads : goal.returns-then-not-is_fed-clause-reads
returns-then-not-is_fed-clause-reads g c =
    let k = c.self.inside in
    let l = g.L.SerialLine.seen c.args.line.now in
    subst (λ (v : SimMachine). ReadsOnce l l v v false) c.self.view_is
    (reads_nothing (machine_of k.core k.line_end k.end) l (sym c.is_fed.ensures ∙ c.if-not-is_fed.true))

pub returns-clause-reads : goal.returns-clause-reads
returns-clause-reads g c =
    let k = c.self.inside in
    let old : SimMachine = machine_of k.core k.line_end k.end in
    let new : LineEnd → SimMachine = λ x. machine_of k.core x k.end in
    let l = g.L.SerialLine.seen c.args.line.now in
    let m = g.L.SerialLine.seen c.read.new.line in
    let e = c.in_ok-read.ensures in
    let n = c.in_ok-read.field-0 in
    let came = c.read.new.self.unfed in
    let Reads : SimMachine → SimMachine → Type 0 = λ v w. ReadsOnce l m v w (nat_lt 0 n) in
    subst (λ (v : SimMachine). Reads v (new c.read.new.self)) c.self.view_is
    (subst (λ (x : LineEnd). Reads old (new x)) (sym e.ok)
    (reads_some old (record old { unfed = came }) l m came n (sym c.is_fed.ensures ∙ c.if-not-is_fed.false) e.bound e.count e.came refl))
