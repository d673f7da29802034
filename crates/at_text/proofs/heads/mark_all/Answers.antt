use Rattle.std.proofs.Common.{arith, ◌≡◌, ◌<◌, length, ◌∙◌, length-set}
use Rattle.at_text.proofs.dialects.Heading.{kept_set, more_next}
use Rattle.at_text.proofs.heads.mark_all.Goals as goal

pub loop-span-preserved : goal.loop-span-preserved
loop-span-preserved c =
    let long : length c.loop-span.spans ≡ 64 = c.loop-span.invariant.0 in
    let inside : c.loop-span.span-index < length c.loop-span.spans = omega (arith, c.loop-span-test.true, long) in (
      length-set c.loop-span.spans c.loop-span.span-index _ ∙ long,
      (λ k i h. kept_set c.loop-span.spans c.loop-span.span-index _ (λ j was. c.with.ensures.kept j was) k i (c.loop-span.invariant.1 k i h)),
      more_next c.loop-span.spans c.loop-span.span-index _ c.args.place inside c.loop-span.invariant.2 c.with.ensures.more,
    )
