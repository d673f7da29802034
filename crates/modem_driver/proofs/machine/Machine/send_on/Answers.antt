-- Octets wait, or nothing goes out, or the next frame does.
use Rattle.std.proofs.Common.{◌≡◌, sym, ◌∙◌, subst, [], false}
use Rattle.std.specs.Prelude.{◌≢◌}
use Rattle.modem_driver.specs.SessionStates.{Machine}
use Rattle.modem_driver.specs.SendingSteps.{MachineSends}
use Rattle.modem_driver.proofs.sessions.steps.NextFrame.{send_busy, send_none, some_wait, none_wait}
use Rattle.modem_driver.proofs.sessions.steps.MachineParts.{machine_of}
use Rattle.modem_driver.proofs.machine.Machine.send_on.Goals as goal

pub returns-then-not-is_written-clause-sends : goal.returns-then-not-is_written-clause-sends
returns-then-not-is_written-clause-sends c =
    let k = c.self.inside in
    let old : Machine = machine_of k in
    let some : old.unwritten ≢ [] = some_wait k.line_end.unwritten (sym c.is_written.ensures ∙ c.if-not-is_written.true) in
    subst (λ (v : Machine). MachineSends v v false) c.self.view_is (send_busy old some)

pub returns-in_default-clause-sends : goal.returns-in_default-clause-sends
returns-in_default-clause-sends c =
    let k = c.self.inside in
    let old : Machine = machine_of k in
    let none : old.unwritten ≡ [] = none_wait k.line_end.unwritten (sym c.is_written.ensures ∙ c.if-not-is_written.false) in
    subst (λ (v : Machine). MachineSends v v false) c.self.view_is
    (send_none old c.in_default.ensures.none c.in_default.ensures.idle none)

pub send_next-requires-clause-none : goal.send_next-requires-clause-none
send_next-requires-clause-none c = subst (λ (v : Machine). v.unwritten ≡ []) c.self.view_is (none_wait c.self.inside.line_end.unwritten (sym c.is_written.ensures ∙ c.if-not-is_written.false))
