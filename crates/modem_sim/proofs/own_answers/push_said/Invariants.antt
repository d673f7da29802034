use Rattle.std.proofs.Common.{◌≡◌, ◌++◌, take}
use Rattle.modem_sim.specs.OwnAnswers.{said_now}
use Rattle.modem_sim.proofs.own_answers.push_said.Given as goal

-- what is said of the lines so far stands behind what was there
abbrev pub invariant-loop-line : goal.invariant-loop-line
invariant-loop-line l = l.out.items ≡ l.initial.out.items ++ said_now (take l.line-index l.lines)
