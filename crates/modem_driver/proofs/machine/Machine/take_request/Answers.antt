-- What the core told of it waits.
use Rattle.std.proofs.Common.{List, ap, sym, ◌∙◌, subst, append-nil}
use Rattle.std.specs.Prelude.{map, ◌++◌}
use Rattle.modem_desk.specs.declared.request.Urc.{Urc}
use Rattle.modem_history.specs.Acts.{Act}
use Rattle.modem_history.specs.Sessions.{heard_as}
use Rattle.modem_driver.specs.SessionStates.{Machine}
use Rattle.modem_driver.specs.TurnTakes.{MachineTakes}
use Rattle.modem_driver.proofs.sessions.steps.OneRequest.{takes}
use Rattle.modem_driver.proofs.sessions.steps.MachineParts.{machine_of}
use Rattle.modem_driver.proofs.machine.Machine.take_request.Goals as goal

pub returns : goal.returns
returns c =
    let k = c.self.inside in
    let q = c.args.request in
    let old : Machine = machine_of k in
    let core = c.take.new.core in
    let w = c.take.new.self in
    let t = c.take.ensures.takes in
    let new : List Urc → Machine = λ us. record old { core = core; unplaced = w.outcomes; unannounced = us } in
    record {
      takes = subst (λ (v : Machine). MachineTakes v (new w.lines) q) c.self.view_is
          (subst (λ (us : List Urc). MachineTakes old (new us) q) (sym c.take.ensures.lines)
          (takes old core q (record { outcomes = w.outcomes; lines = k.waiting.lines }) t.acts c.take.ensures.role t.past t.holds
          (record { outcomes = t.adds; lines = sym (append-nil (map heard_as k.waiting.lines)) ∙ ap (λ (hs : List Act). map heard_as k.waiting.lines ++ hs) (sym t.unheard) })));
    }
