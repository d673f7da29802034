-- None is held.
use Rattle.modem_core.proofs.cores.HeldLanes.{no_lane_held}
use Rattle.modem_core.proofs.lanes.Lanes.new.Goals as goal

pub invariant_of-result : goal.invariant_of-result
invariant_of-result c = no_lane_held c.in_ok-each.each.items c.in_ok-each.ensures
