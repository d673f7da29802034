-- A dialect with no rules of its own is the standard.
use Rattle.std.specs.Prelude.{◌≡◌, List, IfOk, OnOk}
use Rattle.std.proofs.Common.{ap, subst, ◌∙◌}
use Rattle.at_text.specs.Dialects.{Dialect}
use Rattle.at_text.specs.Rules.{dialect_of}
use Rattle.at_text.specs.Windows.{Mark}
use Rattle.at_text.specs.OpenWindow.{FitsMarks, Sees, seen_by, after_line}
use Rattle.at_text.proofs.NoRules.{no_rules_standard}
use Rattle.at_text.proofs.window.Window.see.Goals as goal

pub returns-clause-seen : goal.returns-clause-seen
returns-clause-seen c =
    subst (λ (d : Dialect). IfOk c.see_by.result (λ seen. seen ≡ seen_by d c.args.self.now c.args.line.now)) (ap dialect_of c.standard-standard.ensures ∙ no_rules_standard)
    c.see_by.ensures.seen

pub returns-clause-after : goal.returns-clause-after
returns-clause-after c =
    subst (λ (d : Dialect). OnOk c.see_by.result (c.see_by.new.self ≡ after_line d c.args.self.now c.args.line.now)) (ap dialect_of c.standard-standard.ensures ∙ no_rules_standard)
    c.see_by.ensures.after

pub returns-clause-past : goal.returns-clause-past
returns-clause-past c =
    subst
    (λ (d : Dialect). IfOk c.see_by.result (λ seen. (past : List Mark) → FitsMarks d c.args.self.now past → Sees d past c.args.line.now seen c.see_by.new.self))
    (ap dialect_of c.standard-standard.ensures ∙ no_rules_standard)
    c.see_by.ensures.past
