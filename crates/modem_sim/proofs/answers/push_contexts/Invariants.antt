use Rattle.std.proofs.Common.{◌≡◌, ◌++◌, take, map}
use Rattle.modem_sim.specs.Steps.{line_of}
use Rattle.modem_sim.specs.StateTexts.{context_text}
use Rattle.modem_sim.proofs.answers.push_contexts.Given as goal

-- the lines of the contexts so far stand behind those that were there
abbrev pub invariant-loop-context : goal.invariant-loop-context
invariant-loop-context l = l.answer.items ≡ l.initial.answer.items ++ map line_of (map context_text (take l.context-index l.contexts))
