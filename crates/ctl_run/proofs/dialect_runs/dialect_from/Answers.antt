use Rattle.ctl_text.specs.DialectTexts.{AreLinesOf}
use Rattle.ctl_text.specs.Input.{input_lines}
use Rattle.ctl_run.proofs.outputs.RunEnds.{at_known}
use Rattle.ctl_run.proofs.dialect_runs.dialect_from.Goals as goal

pub returns-clause-made : goal.returns-clause-made
returns-clause-made g c =
    at_known (λ all. AreLinesOf (input_lines all) c.in_ok-dialect.dialect) (g.R.Read.remaining c.args.input.now) c.in_ok-text.text.items c.as_slice.result.now
    c.in_ok-text.ensures.whole c.as_slice.ensures.value c.in_ok-dialect.ensures

pub returns-clause-some : goal.returns-clause-some
returns-clause-some g c = record { text = c.as_slice.result.now; lines = c.in_ok-dialect.ensures }
