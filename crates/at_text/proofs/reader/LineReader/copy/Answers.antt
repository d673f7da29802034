-- What is kept is kept again.
use Rattle.std.proofs.Common.{◌∙◌, ◌++◌, ap, sym, List, ℕ}
use Rattle.at_text.specs.Lines.{kept_run}
use Rattle.at_text.proofs.reader.LineReader.copy.Goals as goal

pub returns : goal.returns
returns c =
    c.keep.ensures.kept
    ∙ (ap (λ (xs : List ℕ). kept_run (xs ++ c.kept.result.now)) c.new-line.ensures
    ∙ (ap kept_run c.kept.ensures.kept
    ∙ (sym c.kept.ensures.itself ∙ c.self.view_is)))
