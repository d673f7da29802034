use Rattle.ctl_run.specs.Dump.{IsNoDump}
use Rattle.ctl_run.specs.LineFaults.{DumpFault}
use Rattle.ctl_run.proofs.inputs.ReadLines.{refused}
use Rattle.ctl_run.proofs.inputs.Dumps.{line_more}
use Rattle.ctl_run.proofs.dump.read_dump.Goals as goal

pub returns-in-Err : goal.returns-in-Err
returns-in-Err c =
    rw c.at_line.ensures
    (refused IsNoDump DumpFault c.args.dump.now c.loop-line.left.now c.in-Some.line.now c.in-Some.rest.now c.loop-line.place c.in-Err.refusal
    c.loop-line.invariant.read c.in-Some.ensures.cut c.in-Err.ensures.says c.in-Err.ensures.fault)

pub loop-line-preserved : goal.loop-line-preserved
loop-line-preserved c =
    line_more c.args.dump.now c.loop-line.left.now c.in-Some.line.now c.in-Some.rest.now c.loop-line.octets.items c.push_pairs.new.octets.items c.loop-line.place
    c.loop-line.invariant c.in-Some.ensures.cut c.in-Some.ensures.shorter c.in_default-push_pairs.ensures.says
