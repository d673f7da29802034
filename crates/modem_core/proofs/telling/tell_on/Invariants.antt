use Rattle.std.specs.Prelude.{◌-◌, ◌≤◌, length, find, option_map}
use Rattle.std.specs.VecDeque.{deque_capacity}
use Rattle.modem_core.specs.Telling.{told_by}
use Rattle.modem_core.specs.Cores.{state_shown}
use Rattle.modem_core.specs.Doing.{TellingOn}
use Rattle.modem_queues.specs.Stops.{asker_of, is_stop}
use Rattle.modem_core.proofs.telling.tell_on.Given as goal

abbrev pub invariant-loop-place : goal.invariant-loop-place
invariant-loop-place l =
    TellingOn (told_by l.happened l.ended (λ d. state_shown l.station l.lost d)) (option_map asker_of (find is_stop l.initial.hand)) l.place l.hand l.initial.hand l.told.items l.initial.told.items l.answered
    × (128 ≤ deque_capacity l.told)

abbrev pub decreases-loop-place : goal.decreases-loop-place
decreases-loop-place l = length l.hand - l.place
