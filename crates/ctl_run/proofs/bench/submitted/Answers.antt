-- The text is known, where the octets of the reader are.
use Rattle.std.specs.Prelude.{List, ℕ}
use Rattle.ctl_run.specs.Bench.{AreSubmitted}
use Rattle.ctl_text.specs.Input.{input_lines}
use Rattle.ctl_run.proofs.outputs.RunEnds.{at_known}
use Rattle.ctl_run.proofs.bench.submitted.Goals as goal

pub returns-clause-ok : goal.returns-clause-ok
returns-clause-ok g c =
    at_known (λ (text : List ℕ). AreSubmitted c.args.callers (input_lines text) c.in_ok-submissions.submissions.items) (g.I.Read.remaining c.args.input.now) c.in_ok-text.text.items c.as_slice.result.now
    c.in_ok-text.ensures.whole c.as_slice.ensures.value c.in_ok-submissions.ensures
