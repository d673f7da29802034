use Rattle.std.proofs.Common.{◌≡◌, ◌^◌, ◌<◌, take}
use Rattle.at_cmds.specs.Params.{hexadecimal}
use Rattle.at_cmds.proofs.values.hex_value_of.Given as goal

-- the value of the digits so far, and how great it is at most
abbrev pub invariant-loop-digit : goal.invariant-loop-digit
invariant-loop-digit l = (l.value ≡ hexadecimal (take l.digit-index l.digits)) × (l.value < 16 ^ l.digit-index)
