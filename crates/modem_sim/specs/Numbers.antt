-- Numbers of refusals.
use Rattle.std.specs.Prelude.{ℕ}
use Rattle.modem_sim.specs.declared.error.SimError.{SimError}

abbrev pub sim_error_number : SimError → ℕ
sim_error_number SimError.NoMemory = 1
sim_error_number SimError.BadN1 = 2
sim_error_number SimError.Line = 3
sim_error_number SimError.Failed = 4
