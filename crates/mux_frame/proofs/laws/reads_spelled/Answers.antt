use Rattle.mux_frame.proofs.readings.LaterTexts.{reads_spelled}
use Rattle.mux_frame.proofs.laws.reads_spelled.Goals as goal

pub returns : goal.returns
returns c = reads_spelled
