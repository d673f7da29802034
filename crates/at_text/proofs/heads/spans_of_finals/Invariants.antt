use Rattle.std.proofs.Common.{take}
use Rattle.at_text.specs.Heads.{AreSpanned}
use Rattle.at_text.proofs.heads.spans_of_finals.Given as goal

-- the rules so far are in the spans
abbrev pub invariant-loop-place : goal.invariant-loop-place
invariant-loop-place l = AreSpanned (take l.place l.finals) l.spans
