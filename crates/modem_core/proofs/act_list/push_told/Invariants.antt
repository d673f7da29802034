-- Those told so far stand behind the acts, and there is room for the others.
use Rattle.std.specs.Prelude.{◌≡◌, ◌≤◌, ◌++◌, length, map}
use Rattle.modem_history.specs.Acts.{Told, act_of}
use Rattle.modem_core.proofs.act_list.push_told.Given as goal

abbrev pub invariant-loop-outcome : goal.invariant-loop-outcome
invariant-loop-outcome l =
    (map act_of l.acts.acts ++ map Told l.told.items ≡ map act_of l.initial.acts.acts ++ map Told l.initial.told.items)
    × (length l.told.items ≤ l.acts.left)

abbrev pub decreases-loop-outcome : goal.decreases-loop-outcome
decreases-loop-outcome l = length l.told.items
