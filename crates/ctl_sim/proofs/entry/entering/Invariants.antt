-- The octets that are left go on from what was read.
use Rattle.std.specs.Prelude.{◌≡◌, fold, drop}
use Rattle.ctl_sim.specs.Entry.{none_read, parameter_octet}
use Rattle.ctl_sim.proofs.entry.entering.Given as goal

abbrev pub invariant-loop-octet : goal.invariant-loop-octet
invariant-loop-octet l = fold parameter_octet l.parameters (drop l.octet-index l.text) ≡ fold parameter_octet (none_read l.fn.n1.octets) l.text
