use Rattle.rtrb.specs.Ring.{received, SameConsumer}
use Rattle.device_line.specs.Flows.{FlowsOut}
use Rattle.device_line.proofs.draining.drain.Given as goal

abbrev pub invariant-loop : goal.invariant-loop
invariant-loop g l = record {
  iterator : (goal.iterator-loop g).can_next l.iterator' × (goal.iterator-loop g).is_finite l.iterator';
  ring : SameConsumer l.initial.ring l.ring;
  flows : FlowsOut 0 (received l.initial.ring) (received l.ring) (g.W.Write.contents l.initial.writer) (g.W.Write.contents l.writer);
}
