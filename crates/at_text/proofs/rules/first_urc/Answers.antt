use Rattle.std.proofs.Common.{rules, tests}
use Rattle.std.proofs.lemmas.Iterator.{YieldsList-from_slice}
use Rattle.std.proofs.lemmas.Iterator.Search.{find_from_yields_List}
use Rattle.at_text.specs.Rules.{takes}
use Rattle.at_text.proofs.rules.first_urc.Goals as goal

pub returns : goal.returns
returns c = find_from_yields_List (λ u. takes u.pattern c.args.line.now) _ _ _ c.find.ensures.ran (YieldsList-from_slice c.args.urcs.now cc) (λ x b q k. search (rules, tests))
