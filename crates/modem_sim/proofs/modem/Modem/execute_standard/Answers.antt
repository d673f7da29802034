use Rattle.std.proofs.Common.{ap, ◌∙◌, Some, None}
use Rattle.modem_sim.proofs.modem_steps.LineSteps.{step_read}
use Rattle.modem_sim.proofs.modem.Modem.execute_standard.Goals as goal

pub returns-in_default-command-clause-answer : goal.returns-in_default-command-clause-answer
returns-in_default-command-clause-answer c =
    let reads = rw c.in_default-command.is at c.in-Ok.ensures.gives in
    c.in_ok-answer_of-2.ensures
    ∙ ap (λ x. x.answer) (step_read c.args.self.now c.args.line.now None c.if-eq_ignore_ascii_case.ensures.test.1 reads)

pub returns-in_default-command-clause-state : goal.returns-in_default-command-clause-state
returns-in_default-command-clause-state c =
    let reads = rw c.in_default-command.is at c.in-Ok.ensures.gives in
    ap (λ x. x.state) (step_read c.args.self.now c.args.line.now None c.if-eq_ignore_ascii_case.ensures.test.1 reads)

pub returns-clause-answer : goal.returns-clause-answer
returns-clause-answer c =
    let reads = rw c.in-Some.is at c.in-Ok.ensures.gives in
    c.in_ok-obey.ensures.answer
    ∙ ap (λ x. x.answer) (step_read c.args.self.now c.args.line.now (Some c.in-Some.command) c.if-eq_ignore_ascii_case.ensures.test.1 reads)

pub returns-clause-state : goal.returns-clause-state
returns-clause-state c =
    let reads = rw c.in-Some.is at c.in-Ok.ensures.gives in
    c.in_ok-obey.ensures.state
    ∙ ap (λ x. x.state) (step_read c.args.self.now c.args.line.now (Some c.in-Some.command) c.if-eq_ignore_ascii_case.ensures.test.1 reads)
