-- No line end stands before the first.
use Rattle.at_text.proofs.lines.KeptOctets.{free_before}
use Rattle.at_text.proofs.reader.searched_len.Goals as goal

pub returns-clause-before : goal.returns-clause-before
returns-clause-before c = free_before c.args.octets.now c.memchr2.result c.unwrap_or.result c.memchr2.ensures c.unwrap_or.ensures
