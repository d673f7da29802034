use Rattle.mux_frame.proofs.readings.LaterTexts.{reads_written}
use Rattle.mux_frame.proofs.laws.reads_written.Goals as goal

pub returns : goal.returns
returns c = reads_written
