-- Numbers of refusals.
use Rattle.std.specs.Prelude.{ℕ}
use Rattle.serial_line.specs.declared.errors.LineError.{LineError}

abbrev pub line_error_number : LineError → ℕ
line_error_number LineError.NoMemory = 1
line_error_number LineError.BadRoom = 2
