use Rattle.at_text.proofs.dialects.Heading.{spanned_next, spanned_all}
use Rattle.at_text.proofs.heads.spans_of_finals.Goals as goal

pub loop-place-preserved : goal.loop-place-preserved
loop-place-preserved c =
    spanned_next c.args.finals.now c.loop-place.place c.index-finals-place.result c.loop-place.spans c.mark.new.spans c.loop-place-test.true c.index-finals-place.is
    c.loop-place.invariant c.mark.ensures.kept (λ line t. c.mark.ensures.more line (rw c.as_slice.ensures t))

pub returns : goal.returns
returns c = spanned_all c.args.finals.now c.loop-place.place c.loop-place.spans c.loop-place-test.false c.loop-place.invariant
