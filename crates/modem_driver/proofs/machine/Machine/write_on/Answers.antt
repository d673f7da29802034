-- No octets wait; or the line took some or none; or the call failed.
use Rattle.std.proofs.Common.{◌≡◌, ◌≢◌, ap, sym, ◌∙◌, subst, [], false, nat_lt, Bool}
use Rattle.line_end.specs.LineEnds.{LineEnd}
use Rattle.modem_driver.specs.SessionStates.{Machine}
use Rattle.modem_driver.specs.SessionTurns.{MachineWrites}
use Rattle.modem_driver.proofs.sessions.steps.LineCalls.{writes_none, writes_some, writes_failing}
use Rattle.modem_driver.proofs.sessions.steps.MachineParts.{at_end, machine_of}
use Rattle.modem_driver.proofs.sessions.steps.NextFrame.{none_wait, some_wait}
use Rattle.modem_driver.proofs.machine.Machine.write_on.Goals as goal
use Rattle.modem_driver.proofs.machine.Machine.write_on.Goals.{in-Ok, in-Err}

pub returns-then-is_written-clause-writes : goal.returns-then-is_written-clause-writes
returns-then-is_written-clause-writes g c =
    let k = c.self.inside in
    let look = g.L.SerialLine.seen in
    let none : k.line_end.unwritten ≡ [] = none_wait k.line_end.unwritten (sym c.is_written.ensures ∙ c.if-is_written.true) in
    writes_none (look c.args.line.now) c.args.self.now (ap (λ (v : Machine). v.unwritten) (sym c.self.view_is) ∙ none)

pub returns-clause-writes : goal.returns-clause-writes
returns-clause-writes g c =
    let k = c.self.inside in
    let old : Machine = machine_of k in
    let look = g.L.SerialLine.seen in
    let l = look c.args.line.now in
    let m = look c.write.new.line in
    let some : old.unwritten ≢ [] = some_wait k.line_end.unwritten (sym c.is_written.ensures ∙ c.if-is_written.false) in
    let Goes : LineEnd → Bool → Type 0 = λ x moved. MachineWrites l m old (at_end old x) moved in
    subst (λ (v : Machine). MachineWrites l m v (at_end old c.write.new.self) c.match-write.result) c.self.view_is
    (elim c.match-write.branch [
      | in-Ok w ↦
          let e = w.in-Ok.ensures in
          let n = w.in-Ok.count in
          subst (λ (moved : Bool). Goes c.write.new.self moved) (sym w.result-is)
          (subst (λ (x : LineEnd). Goes x (nat_lt 0 n)) (sym e.ok)
          (writes_some l m old n some e.bound e.went))
      | in-Err w ↦
          let e = w.in-Err.ensures in
          subst (λ (moved : Bool). Goes c.write.new.self moved) (sym w.result-is)
          (subst (λ (x : LineEnd). Goes x false) (sym e.err)
          (writes_failing l m old some e.fault))
    ])
