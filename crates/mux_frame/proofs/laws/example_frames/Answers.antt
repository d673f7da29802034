use Rattle.mux_frame.proofs.RowFacts.{spelled_so}
use Rattle.mux_frame.proofs.laws.example_frames.Goals as goal

pub returns : goal.returns
returns c = spelled_so
