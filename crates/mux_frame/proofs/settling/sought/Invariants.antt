use Rattle.std.proofs.Common.{◌-◌, length}
use Rattle.mux_frame.specs.Judged.{IsPassed}
use Rattle.mux_frame.proofs.settling.sought.Given as goal

abbrev pub invariant-loop-begin : goal.invariant-loop-begin
invariant-loop-begin l = IsPassed l.n1 l.octets l.start

abbrev pub decreases-loop-begin : goal.decreases-loop-begin
decreases-loop-begin l = length l.octets - l.start
