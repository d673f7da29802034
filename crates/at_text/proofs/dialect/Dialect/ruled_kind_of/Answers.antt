use Rattle.std.proofs.Common.{◌≡◌, sym, ◌∙◌, ap, subst, drop, take}
use Rattle.std.specs.List.{find}
use Rattle.std.specs.Prelude.{option_map}
use Rattle.at_text.specs.declared.unsolicited.UrcKind.TheVariants.{Own}
use Rattle.at_text.specs.Rules.{Rules, takes}
use Rattle.at_text.specs.Heads.{span_at}
use Rattle.at_text.proofs.dialects.Heading.{rule_in}
use Rattle.at_text.proofs.dialect.Dialect.ruled_kind_of.Goals as goal

pub returns-clause-kind : goal.returns-clause-kind
returns-clause-kind c =
    let inside : Rules = record { finals = c.self.inside.finals.items; urcs = c.self.inside.urcs.items } in
    let span = span_at c.self.inside.urc_spans c.head.result in
    let same = rule_in inside.urcs c.self.inside.urc_spans c.args.line.now c.head.result c.part.result.now c.self.invariant.urcs c.head.ensures.value
    (c.part.ensures ∙ ap (λ us. drop span.start (take span.end us)) c.deref.ensures.value) in
    subst (λ (r : Rules). c.first_kind.result ≡ option_map (λ u. Own u.kind) (find (λ u. takes u.pattern c.args.line.now) r.urcs)) c.self.view_is
    (c.first_kind.ensures ∙ sym (ap (option_map (λ u. Own u.kind)) same))
