use Rattle.std.proofs.Common.{rules, ◌≡◌, length, sym, ◌∙◌, subst, None}
use Rattle.at_text.specs.Rules.{Rules, with_rule, UrcRule, kind_named, pattern, urc}
use Rattle.at_text.specs.Heads.{IsKept}
use Rattle.at_text.specs.Refusals.{IsSound, IsRefused}
use Rattle.at_text.specs.Deciding.{refusal_of}
use Rattle.at_text.proofs.dialects.Refusing.{refused, not_refused, no_memory, sound_more}
use Rattle.at_text.proofs.dialects.Heading.{spanned_more_urc}
use Rattle.at_text.proofs.dialects.Results.{if_no_memory}
use Rattle.at_text.proofs.dialect.Dialect.add_unsolicited.Goals as goal

pub returns-in-Some-clause-refused : goal.returns-in-Some-clause-refused
returns-in-Some-clause-refused c =
    refused c.args.self.now (UrcRule c.args.form c.args.text.now c.args.name.now) c.in-Some.why
    (subst IsSound c.self.view_is c.self.invariant.sound) (sym c.urc_refusal.ensures ∙ c.in-Some.is)

pub returns-in_err-push_urc-in-None-clause-refused : goal.returns-in_err-push_urc-in-None-clause-refused
returns-in_err-push_urc-in-None-clause-refused c =
    if_no_memory c.from_residual.result (IsRefused c.args.self.now (UrcRule c.args.form c.args.text.now c.args.name.now)) c.from_residual.ensures.1
    (no_memory c.args.self.now (UrcRule c.args.form c.args.text.now c.args.name.now) (subst IsSound c.self.view_is c.self.invariant.sound)
    (sym c.urc_refusal.ensures ∙ c.in-None.is))

pub invariant_of-self-in-None : goal.invariant_of-self-in-None
invariant_of-self-in-None c =
    let rule = UrcRule c.args.form c.args.text.now c.args.name.now in
    let fits : refusal_of (record { finals = c.self.inside.finals.items; urcs = c.self.inside.urcs.items }) rule ≡ None =
    subst (λ (r : Rules). refusal_of r rule ≡ None) (sym c.self.view_is) (sym c.urc_refusal.ensures ∙ c.in-None.is) in
    let kind : c.kind_number-kind.result ≡ kind_named (record { finals = c.self.inside.finals.items; urcs = c.self.inside.urcs.items }) c.args.name.now =
    subst (λ (r : Rules). c.kind_number-kind.result ≡ kind_named r c.args.name.now) (sym c.self.view_is) c.kind_number-kind.ensures in
    let inside : Rules = record { finals = c.self.inside.finals.items; urcs = c.self.inside.urcs.items } in
    let last : c.len-place.result ≡ length c.self.inside.urcs.items = search rules in
    let kept : IsKept (with_rule inside rule) c.self.inside.final_spans c.mark.new.spans = record {
      sound = sound_more inside rule c.self.invariant.sound fits;
      finals = c.self.invariant.finals;
      urcs = spanned_more_urc inside.urcs (urc (kind_named inside c.args.name.now) c.args.name.now (pattern c.args.form c.args.text.now)) c.len-place.result c.self.inside.urc_spans c.mark.new.spans
          last c.self.invariant.urcs c.mark.ensures.kept c.mark.ensures.more;
    } in
    rw (c.in_ok-push_urc-in-None.ensures.ok, kind) kept

pub returns-in_ok-push_urc-in-None-clause-taken : goal.returns-in_ok-push_urc-in-None-clause-taken
returns-in_ok-push_urc-in-None-clause-taken c =
    not_refused c.args.self.now (UrcRule c.args.form c.args.text.now c.args.name.now) (subst IsSound c.self.view_is c.self.invariant.sound)
    (sym c.urc_refusal.ensures ∙ c.in-None.is)
