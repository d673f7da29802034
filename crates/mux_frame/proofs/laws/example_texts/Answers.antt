use Rattle.mux_frame.proofs.RowFacts.{read_so}
use Rattle.mux_frame.proofs.laws.example_texts.Goals as goal

pub returns : goal.returns
returns c = read_so
