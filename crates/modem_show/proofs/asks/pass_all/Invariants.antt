-- The asks so far were passed.
use Rattle.std.specs.Prelude.{◌≡◌, ◌++◌, map, take, drop}
use Rattle.mux_frame.specs.Frames.{frame_of}
use Rattle.modem_show.specs.Ways.{act_of}
use Rattle.modem_show.specs.Asking.{excused_by}
use Rattle.modem_show.proofs.asks.pass_all.Given as goal

abbrev pub invariant-loop-ask : goal.invariant-loop-ask
invariant-loop-ask l = l.ask-items ≡ map (excused_by (act_of l.deed (frame_of l.frame))) (take l.ask-index l.initial.ask-items) ++ drop l.ask-index l.initial.ask-items
