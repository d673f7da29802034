-- The octets that are left are read on from what was read.
use Rattle.std.specs.Prelude.{◌≡◌, fold, drop}
use Rattle.at_cmds.specs.CommandLines.{nothing_read, read_octet}
use Rattle.at_cmds.proofs.command_lines.commands_in.Given as goal

abbrev pub invariant-loop-octet : goal.invariant-loop-octet
invariant-loop-octet l = fold read_octet l.reader (drop l.octet-index l.line) ≡ fold read_octet nothing_read l.line
