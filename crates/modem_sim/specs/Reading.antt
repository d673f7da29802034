-- A line that is no command (V.250, 5.2.1).
use Rattle.std.specs.Prelude.{ℕ, Bool, List, codes}
use Rattle.at_cmds.specs.Forms.{is_same}

-- a line is AT alone, in either case
abbrev pub is_attention : List ℕ → Bool
is_attention line = is_same line (codes "at")
