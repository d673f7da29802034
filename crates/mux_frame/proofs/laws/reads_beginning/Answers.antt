use Rattle.mux_frame.proofs.readings.ComputedReadings.{reads_beginning}
use Rattle.mux_frame.proofs.laws.reads_beginning.Goals as goal

pub returns : goal.returns
returns c = reads_beginning
