use Rattle.std.proofs.Common.{◌≡◌, take}
use Rattle.std.specs.List.{filter_map}
use Rattle.at_cmds.specs.Replies.{context_in}
use Rattle.at_cmds.proofs.answers.contexts_in.Given as goal

-- the contexts of the lines so far
abbrev pub invariant-loop-i : goal.invariant-loop-i
invariant-loop-i l = l.contexts.items ≡ filter_map context_in (take l.i l.lines)
