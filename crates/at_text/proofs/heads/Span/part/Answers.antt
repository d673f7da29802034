use Rattle.std.proofs.Common.{◌∙◌, ap, min, length}
use Rattle.at_text.proofs.dialects.Parts.{part_is}
use Rattle.at_text.proofs.heads.Span.part.Goals as goal

pub returns : goal.returns
returns g c =
    part_is c.args.items.now c.args.self.start c.args.self.end c.min-start.result c.min-end.result
    (c.min-end.ensures ∙ ap (λ n. min n (length c.args.items.now)) c.from.ensures)
    (c.min-start.ensures ∙ ap (λ n. min n c.min-end.result) c.from-2.ensures)
