-- The frame is handed out by the deframer.
use Rattle.std.proofs.Common.{ap, subst}
use Rattle.mux_frame.specs.Deframing.{Deframing, HandsOver}
use Rattle.line_end.specs.LineEnds.{LineEnd}
use Rattle.line_end.proofs.line_end.LineEnd.advance.Goals as goal

pub returns-clause-past : goal.returns-clause-past
returns-clause-past c =
    subst (λ (d : Deframing). HandsOver d c.advance.new.self) (ap (λ (e : LineEnd). e.deframer) c.self.view_is) c.advance.ensures.past
