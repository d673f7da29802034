use Rattle.std.proofs.Common.{take, map}
use Rattle.at_text.specs.Heads.{AreSpanned}
use Rattle.at_text.proofs.heads.spans_of_urcs.Given as goal

-- the rules so far are in the spans
abbrev pub invariant-loop-place : goal.invariant-loop-place
invariant-loop-place l = AreSpanned (map (λ u. u.pattern) (take l.place l.urcs)) l.spans
