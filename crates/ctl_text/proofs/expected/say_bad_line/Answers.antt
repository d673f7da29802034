use Rattle.ctl_text.specs.LineFaults.{bad_line, reason_line}
use Rattle.ctl_text.proofs.Written.{begun_after, begun_first}
use Rattle.ctl_text.proofs.expected.say_bad_line.Goals as goal

pub returns-then-put_line : goal.returns-then-put_line
returns-then-put_line g c =
    begun_after _ (g.W.Write.contents c.put_line.new.faults) _ (bad_line c.args.number.now) (reason_line c.args.file.now c.args.why)
    (c.put_line.ensures.whole cc) (rw c.reason.ensures at c.say_line.ensures)

pub returns-else-put_line : goal.returns-else-put_line
returns-else-put_line g c = begun_first _ _ (bad_line c.args.number.now) (reason_line c.args.file.now c.args.why) c.put_line.ensures.part
