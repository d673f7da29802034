use Rattle.mux_frame.proofs.Spellings.{one_spelling}
use Rattle.mux_frame.proofs.laws.one_spelling.Goals as goal

pub returns : goal.returns
returns c = one_spelling
