use Rattle.mux_frame.proofs.readings.ComputedReadings.{total_reading}
use Rattle.mux_frame.proofs.laws.total_reading.Goals as goal

pub returns : goal.returns
returns c = total_reading
