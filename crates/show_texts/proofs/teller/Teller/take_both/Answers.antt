-- One frame more is told.

use Rattle.show_texts.proofs.Merged.{more_so_far}
use Rattle.show_texts.proofs.teller.Teller.take_both.Goals as goal

pub loop-next-preserved : goal.loop-next-preserved
loop-next-preserved c =
    more_so_far c.args.self.now c.loop-next.self c.take_frame.new.self _ _ _ _ _ _ c.in-Some.next.direction _ c.loop-next.invariant c.in-Some.ensures.comes c.in_ok-take_frame.ensures
