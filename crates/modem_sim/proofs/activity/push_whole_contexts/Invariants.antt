use Rattle.std.specs.Prelude.{◌≡◌, ◌++◌, take, map}
use Rattle.modem_sim.specs.Steps.{line_of}
use Rattle.modem_sim.specs.StateTexts.{whole_context_text}
use Rattle.modem_sim.proofs.activity.push_whole_contexts.Given as goal

-- the lines of the contexts so far stand behind those that were there
abbrev pub invariant-loop-context : goal.invariant-loop-context
invariant-loop-context l = l.answer.items ≡ l.initial.answer.items ++ map line_of (map whole_context_text (take l.context-index l.contexts))
