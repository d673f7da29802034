use Rattle.mux_capture.proofs.Showing.{first_more}
use Rattle.mux_capture.proofs.pieces.push_pieces.Goals as goal

pub loop-more-preserved : goal.loop-more-preserved
loop-more-preserved c =
    first_more c.args.n1 c.args.stamp c.args.direction c.args.text.now c.loop-more.left.now c.in_ok-more.field-0-1.now c.loop-more.more c.in_ok-more.field-0-0 c.args.out.now.items c.loop-more.out.items c.push_first.new.out.items
    c.loop-more-test.true c.loop-more.invariant c.in_ok-more.ensures.pushes
