use Rattle.std.proofs.Common.{◌≡◌, ◌∙◌, ap, subst, sym, drop, take, ◌+◌, Some}
use Rattle.std.specs.List.{position}
use Rattle.std.specs.Prelude.{option_map}
use Rattle.at_text.specs.declared.finals.Final.TheVariants.{Named}
use Rattle.at_text.specs.Rules.{Rules, takes}
use Rattle.at_text.specs.Heads.{span_at}
use Rattle.at_text.proofs.dialects.Heading.{place_in}
use Rattle.at_text.proofs.dialect.Dialect.own_final_of.Goals as goal

pub returns-in_err-place : goal.returns-in_err-place
returns-in_err-place c =
    let span = span_at c.self.inside.final_spans c.head.result in
    let same = place_in c.self.inside.finals.items c.self.inside.final_spans c.args.line.now c.head.result c.part.result.now c.self.invariant.finals c.head.ensures.value
    (c.part.ensures ∙ ap (λ ps. drop span.start (take span.end ps)) c.deref.ensures.value) in
    subst (λ (r : Rules). c.from_residual.result ≡ option_map Named (position (λ p. takes p c.args.line.now) r.finals)) c.self.view_is
    (c.from_residual.ensures ∙ sym (ap (option_map Named) (same ∙ ap (option_map (λ n. span.start + n)) (sym c.in_err-place.ensures))))

pub returns : goal.returns
returns c =
    let span = span_at c.self.inside.final_spans c.head.result in
    let same = place_in c.self.inside.finals.items c.self.inside.final_spans c.args.line.now c.head.result c.part.result.now c.self.invariant.finals c.head.ensures.value
    (c.part.ensures ∙ ap (λ ps. drop span.start (take span.end ps)) c.deref.ensures.value) in
    subst (λ (r : Rules). Some (Named (span.start + c.in_ok-place.place)) ≡ option_map Named (position (λ p. takes p c.args.line.now) r.finals)) c.self.view_is
    (ap (option_map Named) (sym (same ∙ ap (option_map (λ n. span.start + n)) (sym c.in_ok-place.ensures))))
