use Rattle.std.specs.Fmt.{decimal}
use Rattle.ctl_text.specs.LineFaults.{bad_line}
use Rattle.ctl_text.proofs.Written.{begun_after, begun_first}
use Rattle.modemctl.specs.Sims.{answers_line}
use Rattle.modemctl.proofs.words.answers.say_bad_answer.Goals as goal

pub returns-then-put_line : goal.returns-then-put_line
returns-then-put_line g c =
    begun_after _ (g.E.Write.contents c.put_line.new.faults) _ (bad_line (decimal c.args.place)) (answers_line c.args.part)
    (rw c.format.ensures.text at (c.put_line.ensures.whole cc)) (rw c.reason.ensures at c.say_line.ensures)

pub returns-else-put_line : goal.returns-else-put_line
returns-else-put_line g c = begun_first _ _ (bad_line (decimal c.args.place)) (answers_line c.args.part) (rw c.format.ensures.text at c.put_line.ensures.part)
