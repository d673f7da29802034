-- So many rounds were made, none of which ends them.
use Rattle.modem_bench.specs.OneLine.{StaysOneLine}
use Rattle.modem_bench.specs.Rounds.{JoinsOn, Rounds, pair}
use Rattle.modem_bench.proofs.rounds.steps.Given as goal

abbrev pub invariant-loop : goal.invariant-loop
invariant-loop g l = record {
  rounds : Rounds l.fn.cut (pair l.fn.session l.fn.sim) l.counter (pair l.session l.sim);
  joins : JoinsOn (pair l.fn.session l.fn.sim) (pair l.session l.sim);
  one_line : StaysOneLine (pair l.fn.session l.fn.sim) (pair l.session l.sim);
}
