use Rattle.std.specs.Prelude.{◌≢◌, ℕ, ◌<◌, ◌^◌, List}
use Rattle.std.specs.Fmt.{decimal}
use Rattle.std.proofs.Common.{sym, subst, rules, ◌∙◌}
use Rattle.std.proofs.lemmas.Result.{err_from_is_err_and}
use Rattle.ctl_run.specs.Steps.{SaysAct, SaysNoAct}
use Rattle.ctl_run.proofs.inputs.StepLines.{behind_count, no_act_step, no_number_step, says_step_of}
use Rattle.ctl_run.proofs.steps.step_of.Goals as goal

pub returns-clause-says : goal.returns-clause-says
returns-clause-says c =
    says_step_of c.args.line.now (record { after = c.in-Some.after; act = c.in_ok-act.act }) (sym c.first_word.ensures.word ∙ c.in-Some.ensures) (search rules)
    (subst (λ (l : List ℕ). SaysAct l c.in_ok-act.act) c.first_word.ensures.behind c.in_ok-act.ensures.says)

pub returns-in_default-clause-says : goal.returns-in_default-clause-says
returns-in_default-clause-says c =
    λ _. no_number_step c.args.line.now (subst (λ (w : List ℕ). (n : ℕ) → n < 2 ^ 64 → w ≢ decimal n) c.first_word.ensures.word c.in_default.ensures)

pub returns-in_err-act-clause-says : goal.returns-in_err-act-clause-says
returns-in_err-act-clause-says c =
    let given = err_from_is_err_and c.from_residual.result c.from_residual.ensures.1 in
    rw (given.1, given.2) (λ n. no_act_step c.args.line.now (subst SaysNoAct c.first_word.ensures.behind (c.in_err-act.ensures.says n)))

pub returns-in_err-act-clause-fault : goal.returns-in_err-act-clause-fault
returns-in_err-act-clause-fault c =
    let given = err_from_is_err_and c.from_residual.result c.from_residual.ensures.1 in
    rw (given.1, given.2)
    (behind_count c.args.line.now c.first_word.result.0.now c.first_word.result.1.now c.in-Some.after _ c.first_word.ensures.word c.first_word.ensures.behind c.in-Some.ensures (search rules) c.in_err-act.ensures.fault)
