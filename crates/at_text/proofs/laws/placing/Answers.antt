use Rattle.at_text.proofs.lines.LinePlaces.{places_lines}
use Rattle.at_text.proofs.laws.placing.Goals as goal

pub returns : goal.returns
returns c = places_lines
