use Rattle.std.proofs.Common.{◌≡◌, ◌++◌, take}
use Rattle.modem_sim.specs.Pieces.{pieces_octets, answers}
use Rattle.modem_sim.proofs.replying.push_answer.Given as goal

-- the lines so far stand behind what was there
abbrev pub invariant-loop-line : goal.invariant-loop-line
invariant-loop-line l = l.out.items ≡ l.initial.out.items ++ pieces_octets (answers (take l.line-index l.answer))
