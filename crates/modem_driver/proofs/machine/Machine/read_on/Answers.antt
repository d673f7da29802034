-- Octets were fed; or nothing came; or octets came and were fed; or the call failed.
use Rattle.std.proofs.Common.{◌≡◌, ◌≢◌, ap, sym, ◌∙◌, subst, [], ◌≤◌, true, false, length, ℕ, List}
use Rattle.std.proofs.lemmas.List.{nil_from_length}
use Rattle.serial_line.specs.LineViews.{after_read}
use Rattle.line_end.specs.LineEnds.{LineEnd}
use Rattle.modem_driver.specs.SessionStates.{Machine}
use Rattle.modem_driver.specs.SessionTurns.{MachineReads, Feeds}
use Rattle.modem_driver.proofs.sessions.steps.LineCalls.{reads_fed, reads_none, reads_some, reads_failing}
use Rattle.modem_driver.proofs.sessions.steps.MachineParts.{at_end, machine_of}
use Rattle.modem_driver.proofs.sessions.steps.NextFrame.{none_wait, some_wait}
use Rattle.modem_driver.proofs.machine.Machine.read_on.Goals as goal

pub returns-then-not-is_fed-clause-reads : goal.returns-then-not-is_fed-clause-reads
returns-then-not-is_fed-clause-reads g c =
    let k = c.self.inside in
    let look = g.L.SerialLine.seen in
    let some : k.line_end.unfed ≢ [] = some_wait k.line_end.unfed (sym c.is_fed.ensures ∙ c.if-not-is_fed.true) in
    let same : c.args.self.now.unfed ≡ k.line_end.unfed = ap (λ (v : Machine). v.unfed) (sym c.self.view_is) in
    reads_fed (look c.args.line.now) c.args.self.now c.feed.new.self c.feed.result (λ none. some (sym same ∙ none)) c.feed.ensures

pub returns-in-Ok-eq0-clause-reads : goal.returns-in-Ok-eq0-clause-reads
returns-in-Ok-eq0-clause-reads g c =
    let k = c.self.inside in
    let old : Machine = machine_of k in
    let look = g.L.SerialLine.seen in
    let l = look c.args.line.now in
    let m = look c.read.new.line in
    let e = c.in-Ok-eq0.ensures in
    let came = c.read.new.self.unfed in
    let none : old.unfed ≡ [] = none_wait k.line_end.unfed (sym c.is_fed.ensures ∙ c.if-not-is_fed.false) in
    let nothing : came ≡ [] = nil_from_length came (sym e.count ∙ c.in-Ok-eq0.field-0-test) in
    let gave : m ≡ after_read 512 0 [] l = e.came ∙ ap (λ (n : ℕ). after_read 512 n came l) c.in-Ok-eq0.field-0-test ∙ ap (λ (xs : List ℕ). after_read 512 0 xs l) nothing in
    subst (λ (v : Machine). MachineReads l m v (at_end old c.read.new.self) false) c.self.view_is
    (subst (λ (x : LineEnd). MachineReads l m old (at_end old x) false) (sym e.ok)
    (subst (λ (xs : List ℕ). MachineReads l m old (record old { unfed = xs }) false) (sym nothing) (reads_none l m old none gave)))

pub returns-in-Ok-clause-reads : goal.returns-in-Ok-clause-reads
returns-in-Ok-clause-reads g c =
    let k = c.self.inside in
    let old : Machine = machine_of k in
    let look = g.L.SerialLine.seen in
    let l = look c.args.line.now in
    let m = look c.read.new.line in
    let e = c.in-Ok.ensures in
    let came = c.read.new.self.unfed in
    let f : Feeds (record old { unfed = came }) c.feed-in-Ok.new.self c.feed-in-Ok.result = subst (λ (x : LineEnd). Feeds (at_end old x) c.feed-in-Ok.new.self c.feed-in-Ok.result) e.ok c.feed-in-Ok.ensures in
    let none : old.unfed ≡ [] = none_wait k.line_end.unfed (sym c.is_fed.ensures ∙ c.if-not-is_fed.false) in
    let some : came ≢ [] = λ none. c.in-Ok._count-test.1 (e.count ∙ ap length none) in
    let few = subst (λ (n : ℕ). n ≤ 512) e.count e.bound in
    subst (λ (v : Machine). MachineReads l m v c.feed-in-Ok.new.self true) c.self.view_is
    (subst (λ (v : Machine). MachineReads l m old v true) (sym f.stays)
    (reads_some l m old came c.feed-in-Ok.new.self.deframer c.feed-in-Ok.result none some few (e.came ∙ ap (λ (n : ℕ). after_read 512 n came l) e.count) f.takes f.bound f.few f.some f.frame_stays))

pub returns-in-Err-clause-reads : goal.returns-in-Err-clause-reads
returns-in-Err-clause-reads g c =
    let k = c.self.inside in
    let old : Machine = machine_of k in
    let look = g.L.SerialLine.seen in
    let l = look c.args.line.now in
    let m = look c.read.new.line in
    let e = c.in-Err.ensures in
    let none : old.unfed ≡ [] = none_wait k.line_end.unfed (sym c.is_fed.ensures ∙ c.if-not-is_fed.false) in
    subst (λ (v : Machine). MachineReads l m v (at_end old c.read.new.self) false) c.self.view_is
    (subst (λ (x : LineEnd). MachineReads l m old (at_end old x) false) (sym e.err)
    (reads_failing l m old none e.fault))
