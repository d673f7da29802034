use Rattle.std.proofs.Common.{◌≡◌, ◌++◌, take}
use Rattle.modem_sim.proofs.own_answers.push_copies.Given as goal

-- the lines so far stand behind what was there
abbrev pub invariant-loop-line : goal.invariant-loop-line
invariant-loop-line l = l.out.items ≡ l.initial.out.items ++ take l.line-index l.lines
