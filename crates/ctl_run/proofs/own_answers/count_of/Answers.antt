use Rattle.std.specs.Prelude.{refl}
use Rattle.std.proofs.Common.{inl}
use Rattle.ctl_run.proofs.inputs.AnswerLines.{counted}
use Rattle.ctl_run.proofs.inputs.Scripts.{no_line, some_line}
use Rattle.ctl_run.proofs.own_answers.count_of.Goals as goal

pub returns-then-is_empty : goal.returns-then-is_empty
returns-then-is_empty c = inl (no_line c.args.word.now c.if-is_empty.ensures, refl)

pub returns : goal.returns
returns c = counted c.args.word.now c.number_of.result (some_line c.args.word.now c.if-is_empty.ensures) c.number_of.ensures
