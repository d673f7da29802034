use Rattle.at_text.proofs.lines.UnfinishedLines.{reads_on}
use Rattle.at_text.proofs.laws.reading_on.Goals as goal

pub returns : goal.returns
returns c = reads_on
