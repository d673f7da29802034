-- What ran was asked for by the text, where that is known.
use Rattle.std.proofs.Common.{◌∙◌, List, ℕ, ap, map, subst}
use Rattle.std.specs.Prelude.{vec_items}
use Rattle.std.specs.String.{string_bytes}
use Rattle.std.specs.declared.alloc.Global.{Global}
use Rattle.std.specs.declared.vec.Vec.{Vec}
use Rattle.modem_bench.specs.Running.{Ran}
use Rattle.modem_bench.specs.declared.submission.Submission.{Submission}
use Rattle.modem_desk.specs.declared.request.Outcome.{Outcome}
use Rattle.ctl_text.specs.Input.{input_lines}
use Rattle.ctl_run.specs.Bench.{AreSubmitted}
use Rattle.ctl_run.specs.Printed.{IsBenched}
use Rattle.ctl_run.specs.Shown.{outcomes_text}
use Rattle.ctl_run.proofs.outputs.RunEnds.{known_too}
use Rattle.ctl_run.proofs.bench.benched.Goals as goal

pub returns-clause-ok : goal.returns-clause-ok
returns-clause-ok g c =
    let outcomes : List (List Outcome) = map vec_items c.in_ok-outcomes.outcomes.items in
    known_too (λ (all : List ℕ). AreSubmitted c.args.callers (input_lines all) c.in_ok-submissions.submissions.items)
    (λ (all : List ℕ). IsBenched c.args.callers c.args.cut c.args.script all (string_bytes c.in_ok-text.text))
    (g.I.Read.remaining c.args.input.now) c.in_ok-submissions.ensures.ok (λ all input. record {
      submissions = c.in_ok-submissions.submissions.items;
      outcomes = outcomes;
      input = input;
      ran = subst (λ (ss : List Submission). Ran ss c.args.callers c.args.cut c.args.script outcomes) c.as_slice.ensures.value c.in_ok-outcomes.ensures;
      printed = c.in_ok-text.ensures ∙ ap (λ (os : List (Vec Outcome Global)). outcomes_text (map vec_items os)) c.as_slice-2.ensures.value;
    })
