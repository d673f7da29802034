-- Nothing has been received, sent or taken, so the empty list is theirs.
use Rattle.modem_bench.proofs.OneLine.{begins_on_one_line}
use Rattle.modem_bench.proofs.laws.new_lines.Goals as goal

pub returns : goal.returns
returns c = begins_on_one_line
