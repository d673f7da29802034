use Rattle.std.proofs.Common.{◌<◌, ℕ, List, ◌∷◌, ap, ap₂, sym, subst, ◌∙◌, arith, length, get_or, slice_range}
use Rattle.at_text.proofs.AnswerTexts.{among_ends, end_within, start_before, shown_at}
use Rattle.at_text.proofs.answer_lines.AnswerLines.line.Goals as goal

pub start_of-start-requires : goal.start_of-start-requires
start_of-start-requires c =
    subst (λ (ends : List ℕ). c.args.place < length ends) (sym c.as_slice-ends.ensures)
    (among_ends c.args.self.now c.self.inside.ends.items c.self.inside.octets.items c.args.place c.self.view_is c.requires)

pub end_of-end-requires : goal.end_of-end-requires
end_of-end-requires c =
    subst (λ (ends : List ℕ). c.args.place < length ends) (sym c.as_slice-ends.ensures)
    (among_ends c.args.self.now c.self.inside.ends.items c.self.inside.octets.items c.args.place c.self.view_is c.requires)

pub slice_bounds-result-count : goal.slice_bounds-result-count
slice_bounds-result-count c =
    let ends = c.self.inside.ends.items in
    let inside = among_ends c.args.self.now ends c.self.inside.octets.items c.args.place c.self.view_is c.requires in
    let start = c.start_of-start.ensures ∙ ap (λ (es : List ℕ). get_or (0 ∷ es) c.args.place 0) c.as_slice-ends.ensures in
    let end = c.end_of-end.ensures ∙ ap (λ (es : List ℕ). get_or es c.args.place 0) c.as_slice-ends.ensures in
    let ordered = start_before 0 ends (length c.self.inside.octets.items) c.args.place c.self.invariant inside in
    omega (arith, start, end, ordered)

pub slice_bounds-result-start : goal.slice_bounds-result-start
slice_bounds-result-start c =
    let ends = c.self.inside.ends.items in
    let inside = among_ends c.args.self.now ends c.self.inside.octets.items c.args.place c.self.view_is c.requires in
    let start = c.start_of-start.ensures ∙ ap (λ (es : List ℕ). get_or (0 ∷ es) c.args.place 0) c.as_slice-ends.ensures in
    let end = c.end_of-end.ensures ∙ ap (λ (es : List ℕ). get_or es c.args.place 0) c.as_slice-ends.ensures in
    let ordered = start_before 0 ends (length c.self.inside.octets.items) c.args.place c.self.invariant inside in
    omega (arith, start, end, ordered)

pub slice_bounds-result-end : goal.slice_bounds-result-end
slice_bounds-result-end c =
    let ends = c.self.inside.ends.items in
    let inside = among_ends c.args.self.now ends c.self.inside.octets.items c.args.place c.self.view_is c.requires in
    let end = c.end_of-end.ensures ∙ ap (λ (es : List ℕ). get_or es c.args.place 0) c.as_slice-ends.ensures in
    let within = end_within 0 ends (length c.self.inside.octets.items) c.args.place c.self.invariant inside in
    let octets = ap (λ (xs : List ℕ). length xs) c.as_slice.ensures.value in
    omega (arith, end, within, octets)

pub returns : goal.returns
returns c =
    let ends = c.self.inside.ends.items in
    let inside = among_ends c.args.self.now ends c.self.inside.octets.items c.args.place c.self.view_is c.requires in
    let start = c.start_of-start.ensures ∙ ap (λ (es : List ℕ). get_or (0 ∷ es) c.args.place 0) c.as_slice-ends.ensures in
    let end = c.end_of-end.ensures ∙ ap (λ (es : List ℕ). get_or es c.args.place 0) c.as_slice-ends.ensures in
    shown_at c.args.self.now ends c.self.inside.octets.items _ c.args.place c.self.view_is c.requires
    (ap₂ (λ (a b : ℕ). slice_range c.as_slice.result.now a b) start end
    ∙ ap (λ (xs : List ℕ). slice_range xs (get_or (0 ∷ ends) c.args.place 0) (get_or ends c.args.place 0)) c.as_slice.ensures.value)
