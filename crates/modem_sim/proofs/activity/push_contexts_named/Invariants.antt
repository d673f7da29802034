use Rattle.std.specs.Prelude.{◌≡◌, ◌++◌, take, map, filter}
use Rattle.modem_sim.specs.Contexts.{names}
use Rattle.modem_sim.specs.SettingTexts.{address_text}
use Rattle.modem_sim.specs.Steps.{line_of}
use Rattle.modem_sim.proofs.activity.push_contexts_named.Given as goal

-- the lines of the contexts so far that are named stand behind those that were there
abbrev pub invariant-loop-context : goal.invariant-loop-context
invariant-loop-context l = l.answer.items ≡ l.initial.answer.items ++ map line_of (map (address_text l.active) (filter (names l.which) (take l.context-index l.contexts)))
