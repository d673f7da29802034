-- Numbers of refusals.
use Rattle.std.specs.Prelude.{ℕ}
use Rattle.modem_driver.specs.declared.session.error.SessionError.{SessionError}
use Rattle.modem_driver.specs.declared.session.error.SessionFault.{SessionFault}
use Rattle.modem_driver.specs.declared.entering.EntryError.{EntryError}
use Rattle.modem_driver.specs.declared.endpoint.error.RequestError.{RequestError}

abbrev pub session_error_number : SessionError → ℕ
session_error_number SessionError.NoMemory = 1
session_error_number SessionError.BadN1 = 2

abbrev pub session_fault_number : SessionFault → ℕ
session_fault_number SessionFault.NoMemory = 1
session_fault_number SessionFault.Line = 2
session_fault_number SessionFault.Failed = 3

abbrev pub request_error_number : RequestError → ℕ
request_error_number RequestError.NoMemory = 1
request_error_number RequestError.Full = 2

abbrev pub entry_error_number : EntryError → ℕ
entry_error_number EntryError.Refused = 1
entry_error_number EntryError.NoAnswer = 2
entry_error_number EntryError.Line = 3
