-- Octets that there are make a line.
use Rattle.std.proofs.Common.{arith}
use Rattle.at_text.proofs.lines.KeptOctets.{line_whole}
use Rattle.at_text.proofs.line_run.whole_line.Goals as goal

pub returns : goal.returns
returns c = line_whole c.args.octets.now c.min.result c.min.ensures (let e = c.if-is_empty.ensures in grind (arith, e))
