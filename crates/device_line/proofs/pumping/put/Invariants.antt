use Rattle.rtrb.specs.Ring.{sent, SameProducer}
use Rattle.device_line.proofs.Written.{IsPut}
use Rattle.device_line.proofs.pumping.put.Given as goal

abbrev pub invariant-loop : goal.invariant-loop
invariant-loop g l = record {
  ring : SameProducer l.initial.ring l.ring;
  put : IsPut l.initial.rest l.rest (sent l.initial.ring) (sent l.ring);
}
