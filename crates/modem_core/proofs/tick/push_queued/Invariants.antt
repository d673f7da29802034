-- So many of the frames are put behind the acts.
use Rattle.std.specs.Prelude.{◌≡◌, ◌≤◌, ◌+◌, ◌++◌, map}
use Rattle.modem_history.specs.Acts.{Sent, act_of}
use Rattle.modem_core.specs.Ticked.{queued_from}
use Rattle.modem_core.proofs.tick.push_queued.Given as goal

abbrev pub invariant-loop-i : goal.invariant-loop-i
invariant-loop-i l =
    (l.station ≡ l.initial.station)
    × (map act_of l.acts.acts ≡ map act_of l.initial.acts.acts ++ map Sent (queued_from l.initial.station.queue l.place l.i))
    × (l.initial.acts.left ≤ l.acts.left + l.i)
