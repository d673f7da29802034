-- Worked examples of a modem with words, computed by the definitions.
use Rattle.std.specs.Prelude.{refl}
use Rattle.std.specs.Fmt.{digits}
use Rattle.at_cmds.specs.Params.{parameters, unquoted}
use Rattle.at_cmds.specs.Forms.{numeral_in}
use Rattle.at_cmds.specs.Values.{command_in, command_of}
use Rattle.at_cmds.specs.CommandLines.{commands_in}
use Rattle.modem_sim.specs.LineSteps.{line_commands}
use Rattle.modem_sim.specs.WordRows.{BareLines, CallsAnswered, CallsEndLines, CallsMisspelt, CallsRefused, ChangeAnnounced, ClientAsks, ClientBegins, ContextsActivated, ContextsRefused, DialledLine, DividedLine, EchoOff, OperatorNamed, OwnAnswered, OwnLater, PinAnnounced, PinLocks, PukEntered, QuotedLine, RadioOff, RepeatsCommands, ReportsAreHeld, TenWrongPuks, ValuesAsked}
use Rattle.modem_sim.specs.Words.{word_of}

-- a line of three commands, with a blank between them and octets before AT
pub divided_line : DividedLine
unfolding commands_in
divided_line = refl

-- a blank and a semicolon between quotes belong to the text
pub quoted_line : QuotedLine
unfolding commands_in
quoted_line = refl

-- what stands behind D is its own, a semicolon too
pub dialled_line : DialledLine
unfolding commands_in
dialled_line = (refl, refl, refl)

-- AT alone has no command, and a line without it isn't for the modem
pub bare_lines : BareLines
unfolding commands_in
bare_lines = (refl, refl)

-- what clients send as they begin
pub client_begins : ClientBegins
unfolding command_of command_in numeral_in unquoted parameters digits commands_in line_commands word_of
client_begins = refl

-- a change of registration is announced behind the answer, where reports are on
pub change_announced : ChangeAnnounced
unfolding command_of command_in numeral_in unquoted parameters digits commands_in line_commands word_of
change_announced = refl

-- with the radio off no operator is chosen
pub radio_off : RadioOff
unfolding command_of command_in numeral_in unquoted parameters digits commands_in line_commands word_of
radio_off = refl

-- what values commands take
pub values_asked : ValuesAsked
unfolding command_of command_in numeral_in unquoted parameters digits commands_in line_commands word_of
values_asked = refl

-- a change of registration that a PIN makes is announced
pub pin_announced : PinAnnounced
unfolding command_of command_in numeral_in unquoted parameters digits commands_in line_commands word_of
pin_announced = refl

-- the operator is told in the form that was asked for
pub operator_named : OperatorNamed
unfolding command_of command_in numeral_in unquoted parameters digits commands_in line_commands word_of
operator_named = refl

-- a command that turns repeating off is itself repeated
pub echo_off : EchoOff
unfolding command_of command_in numeral_in unquoted parameters digits commands_in line_commands word_of
echo_off = refl

-- contexts become active one by one or all, and none is where the modem is detached
pub contexts_activated : ContextsActivated
unfolding command_of command_in numeral_in unquoted parameters digits commands_in line_commands word_of
contexts_activated = refl

-- a call is answered CONNECT where its context is active
pub calls_answered : CallsAnswered
unfolding command_of command_in numeral_in unquoted parameters digits commands_in line_commands word_of
calls_answered = refl

-- forms of a call that the modem doesn't take
pub calls_misspelt : CallsMisspelt
unfolding command_of command_in numeral_in unquoted parameters digits commands_in line_commands word_of
calls_misspelt = refl

-- a call is done in its place, and what stands behind it in its line isn't done
pub calls_end_lines : CallsEndLines
unfolding command_of command_in numeral_in unquoted parameters digits commands_in line_commands word_of
calls_end_lines = refl

-- a report that a call's line makes comes behind the next answer, as do lines that waited
pub reports_are_held : ReportsAreHeld
unfolding command_of command_in numeral_in unquoted parameters digits commands_in line_commands word_of
reports_are_held = refl

-- only lines that begin with AT are repeated
pub repeats_commands : RepeatsCommands
unfolding command_of command_in numeral_in unquoted parameters digits commands_in line_commands word_of
repeats_commands = refl

-- before the SIM is ready a call is refused
pub calls_refused : CallsRefused
unfolding command_of command_in numeral_in unquoted parameters digits commands_in line_commands word_of
calls_refused = refl

-- before the SIM is ready, and without a network, no context becomes active
pub contexts_refused : ContextsRefused
unfolding command_of command_in numeral_in unquoted parameters digits commands_in line_commands word_of
contexts_refused = refl

-- three wrong PINs want the PUK, with which a new PIN is given
pub puk_entered : PukEntered
unfolding command_of command_in numeral_in unquoted parameters digits commands_in line_commands word_of
puk_entered = refl

-- after ten wrong PUKs the SIM takes none
pub ten_wrong_puks : TenWrongPuks
unfolding command_of command_in numeral_in unquoted parameters digits commands_in line_commands word_of
ten_wrong_puks = refl

-- what clients ask of contexts, characters and locks
pub client_asks : ClientAsks
unfolding command_of command_in numeral_in unquoted parameters digits commands_in line_commands word_of
client_asks = refl

-- a SIM with a PIN says so
pub pin_locks : PinLocks
unfolding command_of command_in numeral_in unquoted parameters digits commands_in line_commands word_of
pin_locks = refl

-- the first of its own answers that takes a line counts, before the tables
pub own_answered : OwnAnswered
unfolding command_of command_in numeral_in unquoted parameters digits commands_in line_commands word_of
own_answered = refl

-- lines of an own answer come later, behind the answer to the last command line that they wait for
pub own_later : OwnLater
unfolding command_of command_in numeral_in unquoted parameters digits commands_in line_commands word_of
own_later = refl
