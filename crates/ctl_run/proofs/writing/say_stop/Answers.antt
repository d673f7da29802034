use Rattle.ctl_run.proofs.outputs.SaidLines.{begun_reason}
use Rattle.ctl_run.proofs.writing.say_stop.Goals as goal

pub returns-then-explained : goal.returns-then-explained
returns-then-explained g c =
    begun_reason c.args.explained c.args.stop _ (g.E.Write.contents c.put_stop.new.faults) _ c.if-explained.true (c.put_stop.ensures.whole cc) c.say_reason.ensures
