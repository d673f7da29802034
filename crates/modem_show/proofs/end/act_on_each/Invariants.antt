-- The places so far are kept on, and the others as they were.
use Rattle.mux_frame.specs.Frames.{frame_of}
use Rattle.modem_show.specs.Ways.{act_of}
use Rattle.modem_show.specs.Ends.{place_after}
use Rattle.modem_show.proofs.Keeping.{SoFar}
use Rattle.modem_show.proofs.end.act_on_each.Given as goal

abbrev pub invariant-loop-dlci : goal.invariant-loop-dlci
invariant-loop-dlci l =
    SoFar (λ d p. place_after l.role l.zero d p (act_of l.deed (frame_of l.frame))) l.initial.places.items l.places.items l.dlci
