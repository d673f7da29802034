use Rattle.std.proofs.Common.{◌-◌, ◌++◌, length}
use Rattle.mux_frame.specs.Judged.{IsPassed}
use Rattle.mux_frame.proofs.settling.searched_on.Given as goal

abbrev pub invariant-loop-header : goal.invariant-loop-header
invariant-loop-header l = IsPassed l.n1 (l.fn.front ++ l.fn.back) l.start

abbrev pub decreases-loop-header : goal.decreases-loop-header
decreases-loop-header l = length (l.fn.front ++ l.fn.back) - l.start
