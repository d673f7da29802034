-- Where none waits there is nothing to be done.
use Rattle.std.proofs.Common.{ap, sym, ◌∙◌}
use Rattle.std.proofs.lemmas.Bool.{eqb-true}
use Rattle.std.proofs.lemmas.List.{nil_from_length}
use Rattle.modem_core.proofs.sessions.steps.CallerOffers.{tells_none}
use Rattle.modem_core.specs.WaitingLists.{WaitingLists}
use Rattle.modem_core.proofs.waiting.Waiting.place_outcomes.Goals as goal

pub returns-then-is_empty-clause-placed : goal.returns-then-is_empty-clause-placed
returns-then-is_empty-clause-placed c =
    tells_none c.args.driver.now c.args.self.now.outcomes
    (sym (ap (λ (w : WaitingLists). w.outcomes) c.self.view_is) ∙ nil_from_length c.self.inside.outcomes.items (sym c.self.inside.outcomes.ok.0 ∙ eqb-true _ _ (sym c.is_empty.ensures ∙ c.if-is_empty.true)))
