-- A dialect with no rules of its own is the standard.
use Rattle.std.specs.Prelude.{[], IfOk}
use Rattle.std.proofs.Common.{ap, subst, ◌∙◌}
use Rattle.at_text.specs.Dialects.{Dialect}
use Rattle.at_text.specs.Rules.{dialect_of}
use Rattle.at_text.proofs.NoRules.{no_rules_standard}
use Rattle.modem_driver.specs.SessionStates.{FitsAll, beginning_by}
use Rattle.modem_driver.proofs.session.Session.new.Goals as goal

pub returns-clause-begins : goal.returns-clause-begins
returns-clause-begins g c =
    let look = g.L.SerialLine.seen in
    subst (λ (d : Dialect). IfOk c.with_dialect.result (λ s. FitsAll (beginning_by d c.args.n1 (look c.args.line) c.args.driver) look s []))
    (ap dialect_of c.standard-standard.ensures ∙ no_rules_standard) c.with_dialect.ensures.begins
