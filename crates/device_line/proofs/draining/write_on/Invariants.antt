use Rattle.device_line.proofs.Written.{IsPart}
use Rattle.device_line.proofs.draining.write_on.Given as goal

abbrev pub invariant-loop : goal.invariant-loop
invariant-loop g l = record {
  iterator : (goal.iterator-loop g).can_next l.iterator' × (goal.iterator-loop g).is_finite l.iterator';
  part : IsPart l.initial.rest l.rest (g.W.Write.contents l.initial.writer) (g.W.Write.contents l.writer);
}
