use Rattle.std.proofs.Common.{◌≡◌, take, drop}
use Rattle.at_cmds.specs.Params.{divided, parameters}
use Rattle.at_cmds.proofs.values_read.Parameters.{put_text}
use Rattle.at_cmds.proofs.params.param_end.Given as goal

-- the text so far belongs to the first parameter
abbrev pub invariant-loop-i : goal.invariant-loop-i
invariant-loop-i l = parameters l.text ≡ put_text (take l.i l.text) (divided l.is_quoted (drop l.i l.text))
