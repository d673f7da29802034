-- Those counted so far and those to come are all.
use Rattle.std.specs.Prelude.{◌≡◌, ◌≤◌, ◌+◌, ◌-◌}
use Rattle.modem_core.specs.Ticked.{asking_from}
use Rattle.modem_core.proofs.tick.count_asking.Given as goal

abbrev pub invariant-loop-number : goal.invariant-loop-number
invariant-loop-number l = (l.count + asking_from l.station l.number (62 - l.number) ≡ asking_from l.station 0 62) × (l.count ≤ l.number)
