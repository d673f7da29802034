use Rattle.std.proofs.Common.{◌∙◌, sym, nat_eq}
use Rattle.std.specs.Cmp.Lexicographic.{pointwise}
use Rattle.at_text.proofs.AnswerTexts.{shown_apart, both_hold, first_fails}
use Rattle.at_text.proofs.answer_lines.AnswerLinesPartialEq.eq.Goals as goal

pub returns-then-eq : goal.returns-then-eq
returns-then-eq c =
    let a = c.self.inside in
    let b = c.other.inside in
    both_hold (pointwise nat_eq a.ends.items b.ends.items) (pointwise nat_eq a.octets.items b.octets.items) c.eq-then-eq.result
    (sym c.eq.ensures ∙ c.if-eq.true) c.eq-then-eq.ensures
    ∙ shown_apart c.args.self.now c.args.other.now a.ends.items a.octets.items b.ends.items b.octets.items c.self.view_is c.other.view_is c.self.invariant c.other.invariant

pub returns-else-eq : goal.returns-else-eq
returns-else-eq c =
    let a = c.self.inside in
    let b = c.other.inside in
    first_fails (pointwise nat_eq a.ends.items b.ends.items) (pointwise nat_eq a.octets.items b.octets.items) c.eq.result
    (sym c.eq.ensures ∙ c.if-eq.false) c.if-eq.false
    ∙ shown_apart c.args.self.now c.args.other.now a.ends.items a.octets.items b.ends.items b.octets.items c.self.view_is c.other.view_is c.self.invariant c.other.invariant
