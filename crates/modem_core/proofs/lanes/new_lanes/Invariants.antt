-- So many are made.
use Rattle.std.specs.Prelude.{◌≡◌, replicate}
use Rattle.modem_core.specs.Lanes.{new_lane}
use Rattle.modem_core.proofs.lanes.new_lanes.Given as goal

abbrev pub invariant-loop : goal.invariant-loop
invariant-loop l = l.lanes.items ≡ replicate l.counter new_lane
