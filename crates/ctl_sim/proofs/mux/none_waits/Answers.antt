use Rattle.std.proofs.Common.{ap, ◌∙◌, ◌≡◌, [], inr, inl, sym, arith, length}
use Rattle.std.proofs.lemmas.Grind.{common_steps}
use Rattle.std.proofs.lemmas.List.{nil_from_length}
use Rattle.ctl_sim.specs.HeldLine.{HeldState}
use Rattle.ctl_sim.proofs.mux.none_waits.Goals as goal

pub returns-then-is_empty-clause-none : goal.returns-then-is_empty-clause-none
returns-then-is_empty-clause-none c is =
    let none : c.unwritten.result.now ≡ [] = nil_from_length c.unwritten.result.now (grind (arith, common_steps, c.is_empty.ensures, c.if-is_empty.true)) in
    (sym c.unwritten.ensures ∙ none, ap (λ (l : HeldState). l.waiting) (sym c.line.ensures) ∙ c.is_read.ensures.read is)

pub returns-then-is_empty-clause-some : goal.returns-then-is_empty-clause-some
returns-then-is_empty-clause-some c is = inr (λ none. c.is_read.ensures.unread is (ap (λ (l : HeldState). l.waiting) c.line.ensures ∙ none))

pub returns-else-is_empty-clause-some : goal.returns-else-is_empty-clause-some
returns-else-is_empty-clause-some c is = inl (λ none.
    let zero : length c.unwritten.result.now ≡ 0 = ap length (c.unwritten.ensures ∙ none) in
    absurd (grind (arith, common_steps, c.is_empty.ensures, c.if-is_empty.false, zero)))
