use Rattle.mux_frame.proofs.readings.LaterTexts.{reads_on}
use Rattle.mux_frame.proofs.laws.reads_on.Goals as goal

pub returns : goal.returns
returns c = reads_on
