-- The octets are taken in by the deframer.
use Rattle.std.proofs.Common.{ap, subst, take}
use Rattle.mux_frame.specs.Deframing.{Deframing, TakesIn}
use Rattle.line_end.specs.LineEnds.{LineEnd}
use Rattle.line_end.proofs.line_end.LineEnd.feed_from.Goals as goal

pub returns-clause-past : goal.returns-clause-past
returns-clause-past c =
    subst (λ (d : Deframing). TakesIn d (take c.feed.result c.args.octets.now) c.feed.new.self) (ap (λ (e : LineEnd). e.deframer) c.self.view_is) c.feed.ensures.past
