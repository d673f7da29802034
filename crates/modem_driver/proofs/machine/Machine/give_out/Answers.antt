-- Where no octets wait after a frame was asked for, none was left.
use Rattle.std.proofs.Common.{sym, ◌∙◌, subst, ◌≡◌, []}
use Rattle.modem_driver.specs.SessionStates.{Machine}
use Rattle.modem_driver.proofs.endpoints.GivenOctets.{is_drained}
use Rattle.modem_driver.proofs.sessions.steps.NextFrame.{none_wait}
use Rattle.modem_driver.proofs.machine.Machine.give_out.Goals as goal

pub returns-then-is_written-clause-drained : goal.returns-then-is_written-clause-drained
returns-then-is_written-clause-drained c more =
    let written : c.self.inside.line_end.unwritten ≡ [] = none_wait c.self.inside.line_end.unwritten (sym c.is_written.ensures ∙ c.if-is_written.true) in
    is_drained c.loop-count.self c.send_on.new.self c.send_on.result c.send_on.ensures.sends
    (subst (λ (v : Machine). v.unwritten ≡ []) c.self.view_is written)
