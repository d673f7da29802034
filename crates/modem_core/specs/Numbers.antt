-- Numbers of refusals.
use Rattle.std.specs.Prelude.{ℕ}
use Rattle.modem_core.specs.declared.error.CoreError.{CoreError}

abbrev pub core_error_number : CoreError → ℕ
core_error_number CoreError.NoMemory = 1
core_error_number CoreError.BadN1 = 2
core_error_number CoreError.NoRoom = 3
