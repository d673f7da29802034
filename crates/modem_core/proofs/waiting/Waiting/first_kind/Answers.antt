-- The first of the lines that wait.
use Rattle.std.proofs.Common.{refl, subst}
use Rattle.modem_core.specs.WaitingLists.{IsFirstOf}
use Rattle.modem_core.specs.WaitingLists.{WaitingLists}
use Rattle.modem_core.proofs.waiting.Waiting.first_kind.Goals as goal

pub returns-in-Some : goal.returns-in-Some
returns-in-Some c =
    let line = c.in-Some.line.now in
    subst (λ (w : WaitingLists). IsFirstOf line.kind w.lines) c.self.view_is (record { line = line; first = c.in-Some.ensures; is_of = refl })
