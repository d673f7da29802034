use Rattle.std.proofs.Common.{◌≡◌, ◌++◌, take, map}
use Rattle.modem_sim.specs.OwnAnswers.{waits_on}
use Rattle.modem_sim.proofs.own_answers.push_waiting.Given as goal

-- what is kept of the lines so far stands behind what was there
abbrev pub invariant-loop-line : goal.invariant-loop-line
invariant-loop-line l = l.out.items ≡ l.initial.out.items ++ map waits_on (take l.line-index l.lines)
