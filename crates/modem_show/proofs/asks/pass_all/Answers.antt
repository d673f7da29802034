-- One more is passed.
use Rattle.std.specs.Prelude.{slice_set}
use Rattle.std.proofs.Common.{◌∙◌, ap, sym, arith}
use Rattle.std.proofs.lemmas.List.Edits.{map_over_more}
use Rattle.mux_frame.specs.Frames.{frame_of}
use Rattle.modem_show.specs.Ways.{act_of}
use Rattle.modem_show.specs.Asking.{Ask, excused_by}
use Rattle.modem_show.proofs.asks.pass_all.Goals as goal

pub loop-ask-preserved : goal.loop-ask-preserved
loop-ask-preserved c =
    ap (λ (a : Ask). slice_set c.loop-ask.ask-items c.loop-ask.ask-index a) (c.pass.ensures ∙ ap (excused_by (act_of c.args.deed (frame_of c.args.frame))) (sym c.ask-item.is))
    ∙ map_over_more (excused_by (act_of c.args.deed (frame_of c.args.frame))) c.deref_mut-ask-items.result.now c.loop-ask.ask-items c.loop-ask.ask-index c.ask-item.result (omega arith) c.loop-ask.invariant c.ask-item.is
