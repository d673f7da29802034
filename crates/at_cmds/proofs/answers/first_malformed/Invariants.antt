use Rattle.std.proofs.Common.{◌≡◌, drop}
use Rattle.std.specs.List.{position_from}
use Rattle.at_cmds.specs.Replies.{is_malformed_context}
use Rattle.at_cmds.proofs.answers.first_malformed.Given as goal

-- no line so far is malformed
abbrev pub invariant-loop-i : goal.invariant-loop-i
invariant-loop-i l = position_from is_malformed_context 0 l.lines ≡ position_from is_malformed_context l.i (drop l.i l.lines)
