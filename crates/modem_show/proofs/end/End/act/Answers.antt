use Rattle.std.proofs.Common.{sym, subst}
use Rattle.mux_frame.specs.Frames.{frame_of}
use Rattle.modem_show.specs.Ways.{act_of}
use Rattle.modem_show.specs.Ends.{End, EndFits}
use Rattle.modem_show.proofs.Keeping.{end_acts}
use Rattle.modem_show.proofs.end.End.act.Goals as goal

pub returns-clause-past : goal.returns-clause-past
returns-clause-past c = λ past fits.
    end_acts c.self.inside.role c.self.inside.places.items c.act_on_each.new.places.items c.index.result.now past
    (act_of c.args.deed (frame_of c.args.frame)) c.self.invariant c.index.ensures
    (subst (λ (e : End). EndFits e past) (sym c.self.view_is) fits) c.act_on_each.ensures.each
