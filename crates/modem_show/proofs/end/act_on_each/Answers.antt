-- One more place is kept on.
use Rattle.std.proofs.Common.{arith}
use Rattle.mux_frame.specs.Frames.{frame_of}
use Rattle.modem_show.specs.Ways.{act_of}
use Rattle.modem_show.specs.Ends.{place_after}
use Rattle.modem_show.proofs.Keeping.{one_more}
use Rattle.modem_show.proofs.end.act_on_each.Goals as goal

pub loop-dlci-preserved : goal.loop-dlci-preserved
loop-dlci-preserved c =
    one_more (λ d p. place_after c.args.role c.args.zero d p (act_of c.args.deed (frame_of c.args.frame)))
    c.args.places.now.items c.loop-dlci.places.items c.loop-dlci.dlci c.from.result c.from-in-loop-dlci.result c.index-place.result.now c.after.result
    c.loop-dlci.invariant (omega arith) (omega arith) (omega arith) c.index-place.ensures c.after.ensures
