use Rattle.ctl_text.proofs.Written.{IsLeft}
use Rattle.ctl_text.proofs.writing.write_octets.Given as goal

abbrev pub invariant-loop : goal.invariant-loop
invariant-loop g l = IsLeft (g.W.Write.contents l.initial.output) (g.W.Write.contents l.output) l.octets l.left
