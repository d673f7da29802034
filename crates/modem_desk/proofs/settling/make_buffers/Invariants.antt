use Rattle.modem_desk.specs.Settling.{AreRooms}
use Rattle.modem_desk.proofs.settling.make_buffers.Given as goal

abbrev pub invariant-loop : goal.invariant-loop
invariant-loop g l = AreRooms l.counter l.each l.empty.items
