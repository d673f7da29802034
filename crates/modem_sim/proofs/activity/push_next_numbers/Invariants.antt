use Rattle.std.specs.Prelude.{◌≡◌, ◌++◌, take}
use Rattle.std.specs.List.{flat_map}
use Rattle.modem_sim.specs.SettingTexts.{next_number}
use Rattle.modem_sim.proofs.activity.push_next_numbers.Given as goal

-- the numbers of the contexts so far stand behind what was there
abbrev pub invariant-loop-context : goal.invariant-loop-context
invariant-loop-context l = l.text.items ≡ l.initial.text.items ++ flat_map next_number (take l.context-index l.contexts)
