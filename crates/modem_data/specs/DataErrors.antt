-- The numbers of the refusals.
use Rattle.std.specs.Prelude.{ℕ}
use Rattle.modem_data.specs.declared.error.DataError.{DataError}
use Rattle.modem_data.specs.declared.error.DataError.TheVariants.{NoMemory, BadN1, ControlChannel, Twice, TooMany, NotData, UnderWay, Unread, NotOpen, Lines}

abbrev pub data_error_number : DataError → ℕ
data_error_number NoMemory = 1
data_error_number BadN1 = 2
data_error_number ControlChannel = 3
data_error_number Twice = 4
data_error_number TooMany = 5
data_error_number NotData = 6
data_error_number UnderWay = 7
data_error_number Unread = 8
data_error_number NotOpen = 9
data_error_number Lines = 10
