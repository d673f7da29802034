-- Numbers of refusals and of answers.
use Rattle.std.specs.Prelude.{ℕ}
use Rattle.modem_desk.specs.declared.error.SubmitError.{SubmitError}
use Rattle.modem_desk.specs.declared.error.DeskError.{DeskError}
use Rattle.modem_desk.specs.declared.request.Answer.{Answer}

abbrev pub submit_error_number : SubmitError → ℕ
submit_error_number SubmitError.Full = 1
submit_error_number SubmitError.TooMany = 2
submit_error_number SubmitError.Exhausted = 3

abbrev pub desk_error_number : DeskError → ℕ
desk_error_number DeskError.NoMemory = 1
desk_error_number DeskError.BadCount = 2

abbrev pub answer_number : Answer → ℕ
answer_number (Answer.Done _) = 1
answer_number Answer.Opened = 2
answer_number Answer.Shut = 3
answer_number Answer.ProbeBack = 4
answer_number Answer.Stopped = 5
answer_number Answer.NotOpen = 6
answer_number Answer.AlreadyOpen = 7
answer_number Answer.Refused = 8
answer_number Answer.NoAnswer = 9
answer_number Answer.Closed = 10
answer_number Answer.ControlChannel = 11
answer_number Answer.LineLost = 12
answer_number Answer.Busy = 13
