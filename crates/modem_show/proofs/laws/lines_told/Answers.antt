use Rattle.modem_show.proofs.Hearing.{tells_lines}
use Rattle.modem_show.proofs.laws.lines_told.Goals as goal

pub returns : goal.returns
returns c = tells_lines c.reading_on.ensures
