use Rattle.std.proofs.Common.{◌≡◌, drop}
use Rattle.at_cmds.specs.Replies.{named_from}
use Rattle.at_cmds.proofs.answers.first_named.Given as goal

-- no line so far begins with the name
abbrev pub invariant-loop-i : goal.invariant-loop-i
invariant-loop-i l = named_from l.name 0 l.lines ≡ named_from l.name l.i (drop l.i l.lines)
