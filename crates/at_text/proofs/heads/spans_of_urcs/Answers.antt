use Rattle.at_text.proofs.dialects.Heading.{spanned_next_urc, spanned_all_urcs}
use Rattle.at_text.proofs.heads.spans_of_urcs.Goals as goal

pub loop-place-preserved : goal.loop-place-preserved
loop-place-preserved c =
    spanned_next_urc c.args.urcs.now c.loop-place.place c.index-urcs-place.result c.loop-place.spans c.mark.new.spans c.loop-place-test.true c.index-urcs-place.is
    c.loop-place.invariant c.mark.ensures.kept (λ line t. c.mark.ensures.more line (rw c.as_slice.ensures t))

pub returns : goal.returns
returns c = spanned_all_urcs c.args.urcs.now c.loop-place.place c.loop-place.spans c.loop-place-test.false c.loop-place.invariant
