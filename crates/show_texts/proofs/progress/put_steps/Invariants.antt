-- So many steps are told.
use Rattle.std.specs.Prelude.{true}
use Rattle.show_texts.specs.Progress.{TellsSteps}
use Rattle.show_texts.proofs.progress.put_steps.Given as goal

abbrev pub invariant-loop-step : goal.invariant-loop-step
invariant-loop-step g l = TellsSteps l.told l.step (g.P.Write.contents l.initial.terminal) (g.P.Write.contents l.terminal) true
