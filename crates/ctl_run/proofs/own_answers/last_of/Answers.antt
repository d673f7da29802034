use Rattle.std.proofs.Common.{sym}
use Rattle.ctl_run.proofs.inputs.AnswerLines.{no_blank, no_count, no_answer_text}
use Rattle.ctl_run.proofs.own_answers.last_of.Goals as goal

pub returns-in_default : goal.returns-in_default
returns-in_default c = no_blank c.args.text.now c.in_default.ensures

pub returns-in_default-count_of : goal.returns-in_default-count_of
returns-in_default-count_of c =
    no_count c.args.text.now c.in-Some.word.now c.in-Some.line.now c.in-Some.ensures.0 c.in-Some.ensures.1 c.in_default-count_of.ensures

pub returns-then-not-is_line : goal.returns-then-not-is_line
returns-then-not-is_line c =
    no_answer_text c.args.text.now c.in-Some.word.now c.in-Some.line.now c.in-Some.ensures.0 c.in-Some.ensures.1 (sym c.if-not-is_line.ensures)
