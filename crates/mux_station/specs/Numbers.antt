-- Numbers of refusals.
use Rattle.std.specs.Prelude.{ℕ}
use Rattle.mux_station.specs.declared.error.StationError.{StationError}

abbrev pub station_error_number : StationError → ℕ
station_error_number StationError.NotOpen = 1
station_error_number StationError.AlreadyOpen = 2
station_error_number StationError.Busy = 3
station_error_number StationError.ControlChannel = 4
station_error_number StationError.NoMemory = 5
station_error_number StationError.TooLong = 6
station_error_number StationError.NoRoom = 7
station_error_number StationError.BadN1 = 8
