use Rattle.std.proofs.Common.{◌≡◌, ◌++◌, take, map}
use Rattle.modem_sim.specs.OwnAnswers.{due_line}
use Rattle.modem_sim.proofs.own_answers.push_due.Given as goal

-- what is kept of the lines so far stands behind what was there
abbrev pub invariant-loop-line : goal.invariant-loop-line
invariant-loop-line l = l.out.items ≡ l.initial.out.items ++ map due_line (take l.line-index l.lines)
