use Rattle.at_text.proofs.windows.AllLines.{none_lost}
use Rattle.at_text.proofs.laws.windows.Goals as goal

pub returns : goal.returns
returns c = none_lost
