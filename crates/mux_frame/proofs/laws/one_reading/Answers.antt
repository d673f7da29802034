use Rattle.mux_frame.proofs.readings.TextReadings.{one_reading}
use Rattle.mux_frame.proofs.laws.one_reading.Goals as goal

pub returns : goal.returns
returns c = one_reading
