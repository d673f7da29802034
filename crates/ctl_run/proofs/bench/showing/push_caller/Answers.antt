use Rattle.std.proofs.Common.{◌+◌, ◌∙◌, ◌++◌, ap, sym, append_assoc}
use Rattle.std.specs.Prelude.{take}
use Rattle.std.specs.String.{string_bytes}
use Rattle.ctl_text.specs.Texts.{told_text}
use Rattle.ctl_run.specs.Shown.{told_from}
use Rattle.ctl_run.proofs.outputs.ShownOutcomes.{told_next}
use Rattle.ctl_run.proofs.bench.showing.push_caller.Goals as goal

pub loop-outcome-preserved : goal.loop-outcome-preserved
loop-outcome-preserved c =
    let i = c.loop-outcome.outcome-index in
    let placed = c.loop-outcome.invariant.placed in
    let before = told_from c.args.caller 1 (take i c.args.outcomes.now) in
    record {
      placed = ap (λ n. n + 1) placed;
      pushed =
          c.in_ok-push_told.ensures
          ∙ ap (λ t. t ++ told_text c.args.caller (c.loop-outcome.place + 1) c.outcome-item.result.answer) c.loop-outcome.invariant.pushed
          ∙ append_assoc (string_bytes c.args.text.now) before (told_text c.args.caller (c.loop-outcome.place + 1) c.outcome-item.result.answer)
          ∙ ap (λ n. string_bytes c.args.text.now ++ (before ++ told_text c.args.caller (n + 1) c.outcome-item.result.answer)) placed
          ∙ ap (λ t. string_bytes c.args.text.now ++ t) (sym (told_next c.args.caller c.args.outcomes.now i c.outcome-item.result c.loop-outcome-test.true c.outcome-item.is));
    }
