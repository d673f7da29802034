use Rattle.modem_bench.specs.Calling.{OpensAll}
use Rattle.modem_bench.proofs.calling.open_all.Given as goal

abbrev pub invariant-loop-number : goal.invariant-loop-number
invariant-loop-number g l = OpensAll l.submissions l.number l.initial.caller l.caller
