use Rattle.std.proofs.Common.{rules, tests}
use Rattle.std.proofs.lemmas.Iterator.{YieldsList-from_slice}
use Rattle.std.proofs.lemmas.Iterator.Search.{any_from_yields_List}
use Rattle.at_text.specs.Lines.{is_line_end}
use Rattle.at_text.proofs.dialect.has_line_end.Goals as goal

pub returns : goal.returns
returns c = any_from_yields_List is_line_end _ _ _ c.any.ensures.ran (YieldsList-from_slice c.args.text.now cc) (λ x b q k. search (rules, tests))
