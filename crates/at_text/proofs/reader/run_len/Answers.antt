-- No line end stands in either part.
use Rattle.at_text.proofs.lines.KeptOctets.{none_joined}
use Rattle.at_text.proofs.reader.run_len.Goals as goal

pub returns-clause-before : goal.returns-clause-before
returns-clause-before c = none_joined c.args.octets.now c.text_len-low.result c.end_in.result c.text_len-low.ensures.within c.text_len-low.ensures.before c.end_in.ensures.before
