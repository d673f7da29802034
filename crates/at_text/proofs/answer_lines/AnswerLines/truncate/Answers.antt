use Rattle.std.proofs.Common.{ℕ, ◌<◌, List, ◌∷◌, length, get_or, ap, sym, subst, ◌∙◌, arith}
use Rattle.at_text.proofs.AnswerTexts.{among_ends, first_fill, first_show}
use Rattle.at_text.proofs.answer_lines.AnswerLines.truncate.Goals as goal

pub start_of-end-requires : goal.start_of-end-requires
start_of-end-requires c =
    let test = c.if-count-len.true in
    let many = c.len.ensures in
    subst (λ (ends : List ℕ). c.args.count < length ends) (sym c.as_slice.ensures)
    (among_ends c.args.self.now c.self.inside.ends.items c.self.inside.octets.items c.args.count c.self.view_is (omega (arith, test, many)))

pub invariant_of-self : goal.invariant_of-self
invariant_of-self c =
    let test = c.if-count-len.true in
    let many = c.len.ensures in
    let ends = c.self.inside.ends.items in
    let octets = c.self.inside.octets.items in
    let inside = among_ends c.args.self.now ends octets c.args.count c.self.view_is (omega (arith, test, many)) in
    let end_is = c.start_of-end.ensures ∙ ap (λ (es : List ℕ). get_or (0 ∷ es) c.args.count 0) c.as_slice.ensures in
    first_fill ends octets c.truncate-then-count-len.new.self.items c.truncate.new.self.items c.args.count c.start_of-end.result c.self.invariant inside end_is c.truncate.ensures.items c.truncate-then-count-len.ensures.items

pub returns-then-count-len : goal.returns-then-count-len
returns-then-count-len c =
    let test = c.if-count-len.true in
    let many = c.len.ensures in
    let ends = c.self.inside.ends.items in
    let octets = c.self.inside.octets.items in
    let inside = among_ends c.args.self.now ends octets c.args.count c.self.view_is (omega (arith, test, many)) in
    let end_is = c.start_of-end.ensures ∙ ap (λ (es : List ℕ). get_or (0 ∷ es) c.args.count 0) c.as_slice.ensures in
    first_show c.args.self.now ends octets c.truncate-then-count-len.new.self.items c.truncate.new.self.items c.args.count c.start_of-end.result c.self.invariant c.self.view_is inside end_is c.truncate.ensures.items c.truncate-then-count-len.ensures.items
