use Rattle.std.proofs.Common.{◌≡◌, ◌≤◌, ◌∙◌, ◌==◌, length, drop, ℕ, false, sym, ap, subst}
use Rattle.std.specs.Prelude.{Option, Result, Ok, Err, IfOk}
use Rattle.serial_line.specs.LineViews.{LineView, after_write}
use Rattle.serial_line.specs.declared.line.LineFault.{LineFault}
use Rattle.line_end.specs.LineEnds.{LineEnd}
use Rattle.modem_sim.specs.declared.error.SimError.{SimError}
use Rattle.modem_sim.specs.declared.sim.SimTurn.{SimTurn}
use Rattle.modem_sim.specs.Cores.{Core}
use Rattle.modem_sim.specs.Sims.{SimMachine}
use Rattle.modem_sim.specs.Stills.{Writes}
use Rattle.modem_sim.proofs.sims.TurnParts.{writes_nothing, writes_some}
use Rattle.modem_sim.proofs.sims.MachineParts.{machine_of}
use Rattle.modem_sim.proofs.sim_machine.SimMachine.write.Goals as goal

pub returns-then-is_written-clause-writes : goal.returns-then-is_written-clause-writes
returns-then-is_written-clause-writes g c =
    let k = c.self.inside in
    let l = g.L.SerialLine.seen c.args.line.now in
    subst (λ (v : SimMachine). Writes l l v v 0) c.self.view_is
    (writes_nothing (machine_of k.core k.line_end k.end) l (sym c.is_written.ensures ∙ c.if-is_written.true))

-- the line took some or none, or failed
by_answer : (core : Core) (end : Option (Result SimTurn SimError)) (was is : LineEnd) (l m : LineView) (r : Result ℕ LineFault) → (length was.unwritten == 0) ≡ false → IfOk r (λ n. n ≤ length was.unwritten) → IfOk r (λ n. m ≡ after_write n was.unwritten l) → IfOk r (λ n. is ≡ record was { unwritten = drop n was.unwritten }) → IfOk r (λ n. Writes l m (machine_of core was end) (machine_of core is end) n)
by_answer core end was is l m (Ok n) some bound took kept =
    writes_some (machine_of core was end) (machine_of core is end) l m n some bound took (ap (λ (e : LineEnd). machine_of core e end) kept)
by_answer core end was is l m (Err fault) some bound took kept = tt

pub returns-clause-writes : goal.returns-clause-writes
returns-clause-writes g c =
    let k = c.self.inside in
    let l = g.L.SerialLine.seen c.args.line.now in
    let m = g.L.SerialLine.seen c.write.new.line in
    let e = c.write.ensures in
    subst (λ (v : SimMachine). IfOk c.write.result (λ n. Writes l m v (machine_of k.core c.write.new.self k.end) n)) c.self.view_is
    (by_answer k.core k.end k.line_end c.write.new.self l m c.write.result (sym c.is_written.ensures ∙ c.if-is_written.false) e.bound e.went e.ok)
