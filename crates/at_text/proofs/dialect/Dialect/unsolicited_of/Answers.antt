use Rattle.std.proofs.Common.{◌≡◌, sym, ◌∙◌, None}
use Rattle.at_text.specs.Unsolicited.{unsolicited_of}
use Rattle.at_text.proofs.dialects.Naming.{name_right, not_own}
use Rattle.at_text.proofs.dialect.Dialect.unsolicited_of.Goals as goal

pub returns-in-Some-clause-name : goal.returns-in-Some-clause-name
returns-in-Some-clause-name c = λ place h. absurd (not_own c.args.line.now place (sym c.unsolicited_of.ensures ∙ c.in-Some.is ∙ h))

pub returns-in-None-clause-kind : goal.returns-in-None-clause-kind
returns-in-None-clause-kind c =
    let none : unsolicited_of c.args.line.now ≡ None = sym c.unsolicited_of.ensures ∙ c.in-None.is in
    rw none c.own_kind_of.ensures.kind

pub returns-in-None-clause-name : goal.returns-in-None-clause-name
returns-in-None-clause-name c = λ place h. name_right c.args.self.now c.own_kind_of.ensures.sound c.args.line.now place (sym (returns-in-None-clause-kind c) ∙ h)
