-- The connections so far have handed on what they could.
use Rattle.modem_sim.proofs.ends.HandedOctets.{Hands}
use Rattle.modem_sim.proofs.sim_core.SimCore.offer_all.Given as goal

abbrev pub invariant-loop-number : goal.invariant-loop-number
invariant-loop-number l = Hands l.fn.self l.self l.moved l.number
