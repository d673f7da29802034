-- Everyone in hand is told that the line is lost.
use Rattle.std.specs.Prelude.{◌≡◌, List, false, true}
use Rattle.std.proofs.Common.{ap, subst}
use Rattle.modem_desk.specs.declared.request.Request.{Request}
use Rattle.modem_history.specs.Acts.{Lost}
use Rattle.modem_core.specs.Cores.{Core, state_shown}
use Rattle.modem_core.specs.Doing.{Does}
use Rattle.modem_core.specs.Telling.{told_by, left_by}
use Rattle.modem_core.specs.declared.telling.Happened.TheVariants as happened
use Rattle.modem_core.proofs.cores.DoneCalls.{loss_does, none_queued}
use Rattle.modem_core.proofs.driver.Core.do_loss.Goals as goal

pub returns-clause-does : goal.returns-clause-does
returns-clause-does c =
    let old : Core = record { station = c.self.inside.station; lanes = c.self.inside.lanes; hand = c.self.inside.hand; rules = c.self.inside.dialect; kinds = c.self.inside.kinds.items; lost = c.self.inside.lost } in
    let says = told_by happened.Lost false (λ d. state_shown old.station true d) in
    let new : Core = record old { hand = c.tell_on.new.hand; lost = true } in
    let same : new ≡ record old { hand = left_by says old.hand; lost = true } = ap (λ (w : List Request). record old { hand = w; lost = true }) c.tell_on.ensures.hand in
    subst (λ (v : Core). Does v new c.args.told.now.items c.tell_on.new.told.items Lost c.tell_on.result) c.self.view_is
    (loss_does old new c.args.told.now.items c.tell_on.new.told.items c.tell_on.result same c.tell_on.ensures.adds c.tell_on.ensures.answered)

pub returns-clause-queues : goal.returns-clause-queues
returns-clause-queues c = none_queued 0 0 c.args.self.now _ Lost (ap (λ (v : Core). v.station) c.self.view_is)
