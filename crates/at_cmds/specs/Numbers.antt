-- Numbers of refusals.
use Rattle.std.specs.Prelude.{ℕ}
use Rattle.at_cmds.specs.declared.error.CmdError.{CmdError}
use Rattle.at_cmds.specs.declared.error.ReplyFault.{ReplyFault}

abbrev pub cmd_error_number : CmdError → ℕ
cmd_error_number CmdError.BadPin = 1
cmd_error_number CmdError.BadApn = 2
cmd_error_number CmdError.BadNumber = 3
cmd_error_number CmdError.NoMemory = 4

abbrev pub reply_fault_number : ReplyFault → ℕ
reply_fault_number (ReplyFault.Cme _) = 1
reply_fault_number ReplyFault.PlainError = 2
reply_fault_number ReplyFault.Missing = 3
reply_fault_number (ReplyFault.Malformed _) = 4
reply_fault_number ReplyFault.NoMemory = 5
