use Rattle.std.proofs.Common.{◌≡◌, drop}
use Rattle.mux_frame.proofs.CheckOctets.{registered}
use Rattle.mux_frame.proofs.check.check_octet.Given as goal

abbrev pub invariant-loop-octet : goal.invariant-loop-octet
invariant-loop-octet l = registered l.register (drop l.octet-index l.octets) ≡ registered 255 l.octets
