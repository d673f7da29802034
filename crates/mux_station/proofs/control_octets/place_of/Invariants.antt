-- The frame of the index so far begins here.
use Rattle.mux_station.specs.ControlOctets.{BeginsAt}
use Rattle.mux_station.proofs.control_octets.place_of.Given as goal

abbrev pub invariant-loop : goal.invariant-loop
invariant-loop l = BeginsAt l.fn.octets.items l.fn.count l.counter l.place
