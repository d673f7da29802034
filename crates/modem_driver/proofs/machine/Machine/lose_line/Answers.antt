-- What the core told waits.
use Rattle.std.proofs.Common.{◌≡◌, ap, sym, ◌∙◌, subst, false, true, refl}
use Rattle.std.specs.Prelude.{List}
use Rattle.line_end.specs.LineEnds.{LineEnd}
use Rattle.modem_desk.specs.declared.request.Urc.{Urc}
use Rattle.modem_history.specs.Acts.{Lost}
use Rattle.modem_core.specs.Doing.{acts_since}
use Rattle.modem_driver.specs.SessionStates.{Machine, MachineLoses}
use Rattle.modem_core.proofs.cores.DoneCalls.{keeps_since}
use Rattle.modem_driver.proofs.sessions.steps.LineLoss.{loses}
use Rattle.modem_driver.proofs.sessions.steps.MachineParts.{at_end, machine_of}
use Rattle.modem_driver.proofs.machine.Machine.lose_line.Goals as goal

pub returns-clause-loses : goal.returns-clause-loses
returns-clause-loses c =
    let k = c.self.inside in
    let failed : Machine = record (machine_of k) { faulty = true } in
    let core = c.lose.new.core in
    let w = c.lose.new.self in
    let does = c.lose.ensures.does in
    let new : List Urc → LineEnd → Machine = λ us l. at_end (record failed { core = core; unplaced = w.outcomes; unannounced = us }) l in
    let live : failed.core.lost ≡ false = ap (λ (v : Machine). v.core.lost) c.self.view_is ∙ c.requires in
    subst (λ (v : Machine). MachineLoses (record v { faulty = true }) (new w.lines c.fail.new.self)) c.self.view_is
    (subst (λ (l : LineEnd). MachineLoses failed (new w.lines l)) (sym c.fail.ensures)
    (subst (λ (us : List Urc). MachineLoses failed (record failed { core = core; unplaced = w.outcomes; unannounced = us })) (sym c.lose.ensures.lines)
    (loses failed core (record { outcomes = w.outcomes; lines = k.waiting.lines }) (acts_since Lost k.core core does.told) does.past does.holds
    (keeps_since Lost k.core core k.waiting.outcomes w.outcomes does.told k.waiting.lines (λ xs. refl) (λ xs. refl) does.adds) refl live)))
