-- So many are taken.
use Rattle.std.specs.Prelude.{◌≡◌, take, drop}
use Rattle.mux_station.proofs.control_octets.octets_from.Given as goal

abbrev pub invariant-loop-index : goal.invariant-loop-index
invariant-loop-index l = l.taken.items ≡ take l.index (drop l.fn.place l.fn.octets.items)
