use Rattle.std.proofs.Common.{◌≡◌, take}
use Rattle.modem_sim.proofs.own_answers.OwnAnswers.copy.Given as goal

-- the answers so far are copied
abbrev pub invariant-loop-answer : goal.invariant-loop-answer
invariant-loop-answer l = l.answers.items ≡ take l.answer-index l.answer-items
