use Rattle.std.proofs.Common.{◌≡◌, ◌≤◌, ◌-◌}
use Rattle.mux_frame.specs.Places.{turned}
use Rattle.mux_frame.proofs.straight.turn.Given as goal

abbrev pub invariant-loop-moved : goal.invariant-loop-moved
invariant-loop-moved l = (l.octets ≡ turned l.moved l.initial.octets) × (l.moved ≤ l.count)

abbrev pub decreases-loop-moved : goal.decreases-loop-moved
decreases-loop-moved l = l.count - l.moved
