use Rattle.mux_capture.proofs.Passing.{over_is_read}
use Rattle.mux_capture.proofs.laws.captured_pieces.Goals as goal

pub returns-clause-over : goal.returns-clause-over
returns-clause-over c = over_is_read
