use Rattle.std.specs.Prelude.{ℕ, List, ◌++◌, codes}
use Rattle.std.proofs.Common.{ap, ◌∙◌}
use Rattle.ctl_run.proofs.inputs.StepLines.{announces, text_fault_at}
use Rattle.ctl_run.proofs.steps.announce_of.Goals as goal

pub returns-then-word-words-clause-fault : goal.returns-then-word-words-clause-fault
returns-then-word-words-clause-fault c =
    text_fault_at c.args.words.now c.first_word.result.0.now c.in_ok-dlci.dlci.number c.first_word.ensures.word c.in_ok-dlci.ensures c.in_ok-dlci.dlci.in_range c.if-word-words.true

pub returns-clause-says : goal.returns-clause-says
returns-clause-says c =
    ap (λ (l : List ℕ). codes "announce " ++ l)
    (announces c.args.words.now c.first_word.result.0.now c.from-line.result c.in_ok-dlci.dlci.number c.first_word.ensures.word
    (c.from-line.ensures ∙ c.in_ok-from_slice.ensures.items ∙ c.first_word.ensures.behind) c.in_ok-dlci.ensures c.if-word-words.false)
