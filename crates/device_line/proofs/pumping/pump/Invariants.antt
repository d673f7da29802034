use Rattle.rtrb.specs.Ring.{sent, SameProducer}
use Rattle.device_line.specs.Flows.{FlowsIn}
use Rattle.device_line.proofs.pumping.pump.Given as goal

abbrev pub invariant-loop : goal.invariant-loop
invariant-loop g l = record {
  ring : SameProducer l.initial.ring l.ring;
  flows : FlowsIn 0 (sent l.initial.ring) (sent l.ring) (g.R.Read.remaining l.initial.reader) (g.R.Read.remaining l.reader);
}
