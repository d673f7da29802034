use Rattle.std.proofs.Common.{◌≡◌, find}
use Rattle.std.specs.Array.Iter.{array_into_iter_items}
use Rattle.at_cmds.specs.Commands.{fixed_text}
use Rattle.at_cmds.specs.Forms.{is_same}
use Rattle.at_cmds.specs.Values.{fixed_in}
use Rattle.at_cmds.proofs.command.fixed_command.Given as goal

-- what is found among the commands that are left is what is found among all
abbrev pub invariant-loop-command : goal.invariant-loop-command
invariant-loop-command l = find (λ c. is_same l.text (fixed_text c)) (array_into_iter_items l.command-iterator) ≡ fixed_in l.text
