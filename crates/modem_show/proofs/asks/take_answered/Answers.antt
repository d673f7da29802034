-- Where none is answered, none is found.
use Rattle.std.specs.Prelude.{List}
use Rattle.std.specs.List.{position}
use Rattle.std.proofs.Common.{◌∙◌, ap, sym}
use Rattle.mux_frame.specs.Frames.{frame_of}
use Rattle.modem_show.specs.Asking.{Ask, answers}
use Rattle.modem_show.proofs.Places.{found_nowhere}
use Rattle.modem_show.proofs.asks.take_answered.Goals as goal

pub returns-in-None-clause-taken : goal.returns-in-None-clause-taken
returns-in-None-clause-taken c =
    found_nowhere (λ (a : Ask). answers a.frame (frame_of c.args.frame)) c.args.asks.now.items
    (ap (λ (xs : List Ask). position (λ (a : Ask). answers a.frame (frame_of c.args.frame)) xs) (sym c.as_slice.ensures.value)
    ∙ (sym c.place_answered.ensures ∙ c.in-None.is))
