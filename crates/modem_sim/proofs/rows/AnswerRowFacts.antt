-- Worked examples, computed by the definitions.
use Rattle.std.specs.Prelude.{refl}
use Rattle.std.specs.Fmt.{digits}
use Rattle.at_cmds.specs.Params.{parameters, unquoted}
use Rattle.at_cmds.specs.Forms.{numeral_in}
use Rattle.at_cmds.specs.Values.{command_in, command_of}
use Rattle.modem_sim.specs.Rows.{PinEntered, ThreeWrongPins, ErrorInWords, NetworkLeft}

-- the PIN is entered, once wrong, then right
pub pin_entered : PinEntered
unfolding command_of command_in numeral_in unquoted parameters digits
pin_entered = refl

-- three wrong PINs in a row want the PUK
pub three_wrong_pins : ThreeWrongPins
unfolding command_of command_in numeral_in unquoted parameters digits
three_wrong_pins = refl

-- errors are told in words
pub error_in_words : ErrorInWords
unfolding command_of command_in numeral_in unquoted parameters digits
error_in_words = refl

-- the registration has the cell at mode 2, and leaving the network detaches
pub network_left : NetworkLeft
unfolding command_of command_in numeral_in unquoted parameters digits
network_left = refl
