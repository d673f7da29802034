use Rattle.std.proofs.Common.{sym, ◌∙◌}
use Rattle.at_text.proofs.dialects.Heading.{more_set}
use Rattle.at_text.proofs.heads.mark.Goals as goal

pub returns-then-is_headed-clause-more : goal.returns-then-is_headed-clause-more
returns-then-is_headed-clause-more c = λ line h.
    rw c.head-head.ensures.value (more_set c.args.spans.now c.args.form c.args.text.now line c.args.place c.with.result c.told-spans (sym c.is_headed.ensures ∙ c.if-is_headed.true) c.with.ensures.more h)
