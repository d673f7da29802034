-- No octet was looked at yet.
use Rattle.std.specs.Prelude.{[], refl}
use Rattle.mux_frame.specs.Reading.{no_flag}
use Rattle.ctl_sim.proofs.data_client.cut_frame.Goals as goal

pub first_frame-requires-clause-seen : goal.first_frame-requires-clause-seen
first_frame-requires-clause-seen c = no_flag [] refl
