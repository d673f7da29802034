use Rattle.mux_frame.proofs.Spellings.{spells_shortest}
use Rattle.mux_frame.proofs.laws.spells_shortest.Goals as goal

pub returns : goal.returns
returns c = spells_shortest
