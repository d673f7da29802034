-- None may send.
use Rattle.mux_station.proofs.turns.SenderMarks.{marks_none}
use Rattle.mux_station.proofs.channels.Channels.new.Goals as goal

pub invariant_of-result : goal.invariant_of-result
invariant_of-result c = marks_none c.in_ok-each.each.items c.in_ok-each.ensures
