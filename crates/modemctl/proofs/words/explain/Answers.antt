use Rattle.std.specs.Prelude.{refl}
use Rattle.ctl_run.specs.declared.stop.Stop.TheVariants as Stop
use Rattle.ctl_run.proofs.outputs.SaidLines.{begun_line}
use Rattle.ctl_run.proofs.outputs.StoppedRuns.{gave_up}
use Rattle.modemctl.proofs.words.explain.Goals as goal

pub returns-then-matches-clause-nothing : goal.returns-then-matches-clause-nothing
returns-then-matches-clause-nothing g c one explained = gave_up explained Stop.NoMemory c.args.output.now _ _ _ _ c.give_up.ensures.status (begun_line explained Stop.NoMemory _ _ c.give_up.ensures.said) (λ other. refl)

pub returns-in-Err-clause-nothing : goal.returns-in-Err-clause-nothing
returns-in-Err-clause-nothing g c one explained =
    gave_up explained Stop.Output c.args.output.now _ _ _ _ c.give_up-in-Err.ensures.status (begun_line explained Stop.Output _ _ c.give_up-in-Err.ensures.said) (λ other. absurd (other refl))
