-- No line end stands in either part.
use Rattle.at_text.proofs.lines.KeptOctets.{none_joined}
use Rattle.at_text.proofs.reader.text_len.Goals as goal

pub returns-clause-before : goal.returns-clause-before
returns-clause-before c = none_joined c.args.octets.now c.fours_len-low.result c.ones_len.result c.fours_len-low.ensures.within c.fours_len-low.ensures.before c.ones_len.ensures.before
