use Rattle.std.proofs.Common.{rules, tests}
use Rattle.std.proofs.lemmas.Iterator.{YieldsList-from_slice}
use Rattle.std.proofs.lemmas.Iterator.Search.{all_from_yields_List}
use Rattle.at_text.specs.Refusals.{is_visible}
use Rattle.at_text.proofs.dialect.is_all_visible.Goals as goal

pub returns : goal.returns
returns c = all_from_yields_List is_visible _ _ _ c.all.ensures.ran (YieldsList-from_slice c.args.name.now cc) (λ x b q k. search (rules, tests))
