use Rattle.std.proofs.Common.{◌+◌, ◌∙◌, ◌++◌, ap, sym}
use Rattle.std.specs.Prelude.{map, take, vec_items}
use Rattle.ctl_run.specs.Shown.{callers_from, told_from}
use Rattle.ctl_run.proofs.outputs.ShownOutcomes.{callers_next}
use Rattle.ctl_run.proofs.bench.showing.outcomes_text.Goals as goal

pub loop-outcomes-preserved : goal.loop-outcomes-preserved
loop-outcomes-preserved c =
    let i = c.loop-outcomes.outcomes-index in
    let counted = c.loop-outcomes.invariant.counted in
    record {
      counted = ap (λ n. n + 1) counted;
      pushed =
          c.in_ok-push_caller.ensures
          ∙ ap (λ t. t ++ told_from c.loop-outcomes.caller 1 c.as_slice.result.now) c.loop-outcomes.invariant.pushed
          ∙ ap (λ n. callers_from 0 (map vec_items (take i c.args.all.now)) ++ told_from n 1 c.as_slice.result.now) counted
          ∙ ap (λ t. callers_from 0 (map vec_items (take i c.args.all.now)) ++ told_from i 1 t) c.as_slice.ensures.value
          ∙ sym (callers_next c.args.all.now i c.outcomes-item.result c.loop-outcomes-test.true c.outcomes-item.is);
    }
