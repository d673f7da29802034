use Rattle.std.proofs.Common.{◌∙◌, List, map, subst}
use Rattle.at_text.specs.declared.rules.Pattern.{Pattern}
use Rattle.at_text.specs.declared.rules.Urc.{Urc}
use Rattle.at_text.specs.Heads.{AreSpanned, IsKept}
use Rattle.at_text.specs.KnownRules.{common}
use Rattle.at_text.proofs.dialects.Known.{sound_common}
use Rattle.at_text.proofs.dialect.Dialect.common.Goals as goal

pub invariant_of-result : goal.invariant_of-result
invariant_of-result c =
    let kept : IsKept common c.spans_of_finals-final_spans.result c.spans_of_urcs-urc_spans.result = record {
      sound = sound_common;
      finals = subst (λ (ps : List Pattern). AreSpanned ps c.spans_of_finals-final_spans.result) (c.deref.ensures.value ∙ c.in_ok-finals.ensures) c.spans_of_finals-final_spans.ensures;
      urcs = subst (λ (us : List Urc). AreSpanned (map (λ u. u.pattern) us) c.spans_of_urcs-urc_spans.result) (c.deref-2.ensures.value ∙ c.in_ok-urcs.ensures) c.spans_of_urcs-urc_spans.ensures;
    } in
    rw (c.in_ok-finals.ensures, c.in_ok-urcs.ensures) kept
