-- The numbers of a command's refusals.
use Rattle.std.specs.Prelude.{ℕ}
use Rattle.modem_driver.specs.Numbers.{request_error_number}
use Rattle.modem_data_endpoint.specs.declared.between.CommandRefused.{CommandRefused}
use Rattle.modem_data_endpoint.specs.declared.between.CommandRefused.TheVariants.{CarriesData, Request}

abbrev pub command_refused_number : CommandRefused → ℕ
command_refused_number (CarriesData line) = 3
command_refused_number (Request q) = request_error_number q.why
