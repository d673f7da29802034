-- The worked calls hold.
use Rattle.std.specs.Prelude.{refl}
use Rattle.std.specs.Fmt.{digits}
use Rattle.at_cmds.specs.Params.{parameters, unquoted}
use Rattle.at_cmds.specs.Forms.{numeral_in}
use Rattle.at_cmds.specs.Values.{command_in, command_of}
use Rattle.modem_sim.specs.CallRows.{CallsKeepQuiet}
use Rattle.at_cmds.specs.CommandLines.{commands_in}
use Rattle.modem_sim.specs.LineSteps.{line_commands}
use Rattle.modem_sim.specs.Words.{word_of}

-- no line is announced in a call, but one may be elsewhere, without a call and behind one
pub calls_keep_quiet : CallsKeepQuiet
unfolding command_of command_in numeral_in unquoted parameters digits commands_in line_commands word_of
calls_keep_quiet = (refl, refl, refl, refl, refl)
