use Rattle.std.proofs.Common.{rules, ◌≡◌, length, sym, ◌∙◌, subst, None}
use Rattle.at_text.specs.Rules.{Rules, with_rule, FinalRule, pattern}
use Rattle.at_text.specs.Heads.{IsKept}
use Rattle.at_text.specs.Refusals.{IsSound, IsRefused}
use Rattle.at_text.specs.Deciding.{refusal_of}
use Rattle.at_text.proofs.dialects.Refusing.{refused, not_refused, no_memory, sound_more}
use Rattle.at_text.proofs.dialects.Heading.{spanned_more}
use Rattle.at_text.proofs.dialects.Results.{if_no_memory}
use Rattle.at_text.proofs.dialect.Dialect.add_final.Goals as goal

pub returns-in-Some-clause-refused : goal.returns-in-Some-clause-refused
returns-in-Some-clause-refused c =
    refused c.args.self.now (FinalRule c.args.form c.args.text.now) c.in-Some.why
    (subst IsSound c.self.view_is c.self.invariant.sound) (sym c.final_refusal.ensures ∙ c.in-Some.is)

pub returns-in_err-push_pattern-in-None-clause-refused : goal.returns-in_err-push_pattern-in-None-clause-refused
returns-in_err-push_pattern-in-None-clause-refused c =
    if_no_memory c.from_residual.result (IsRefused c.args.self.now (FinalRule c.args.form c.args.text.now)) c.from_residual.ensures.1
    (no_memory c.args.self.now (FinalRule c.args.form c.args.text.now) (subst IsSound c.self.view_is c.self.invariant.sound)
    (sym c.final_refusal.ensures ∙ c.in-None.is))

pub invariant_of-self-in-None : goal.invariant_of-self-in-None
invariant_of-self-in-None c =
    let rule = FinalRule c.args.form c.args.text.now in
    let fits : refusal_of (record { finals = c.self.inside.finals.items; urcs = c.self.inside.urcs.items }) rule ≡ None =
    subst (λ (r : Rules). refusal_of r rule ≡ None) (sym c.self.view_is) (sym c.final_refusal.ensures ∙ c.in-None.is) in
    let inside : Rules = record { finals = c.self.inside.finals.items; urcs = c.self.inside.urcs.items } in
    let last : c.len-place.result ≡ length c.self.inside.finals.items = search rules in
    let kept : IsKept (with_rule inside rule) c.mark.new.spans c.self.inside.urc_spans = record {
      sound = sound_more inside rule c.self.invariant.sound fits;
      finals = spanned_more inside.finals (pattern c.args.form c.args.text.now) c.len-place.result c.self.inside.final_spans c.mark.new.spans
          last c.self.invariant.finals c.mark.ensures.kept c.mark.ensures.more;
      urcs = c.self.invariant.urcs;
    } in
    rw c.in_ok-push_pattern-in-None.ensures.ok kept

pub returns-in_ok-push_pattern-in-None-clause-taken : goal.returns-in_ok-push_pattern-in-None-clause-taken
returns-in_ok-push_pattern-in-None-clause-taken c =
    not_refused c.args.self.now (FinalRule c.args.form c.args.text.now) (subst IsSound c.self.view_is c.self.invariant.sound)
    (sym c.final_refusal.ensures ∙ c.in-None.is)
