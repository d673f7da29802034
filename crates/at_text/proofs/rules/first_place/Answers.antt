use Rattle.std.proofs.Common.{rules, tests}
use Rattle.std.proofs.lemmas.Iterator.{YieldsList-from_slice}
use Rattle.std.proofs.lemmas.Iterator.Search.{position_from_yields_List}
use Rattle.at_text.specs.Rules.{takes}
use Rattle.at_text.proofs.rules.first_place.Goals as goal

pub returns : goal.returns
returns c = position_from_yields_List (λ p. takes p c.args.line.now) _ _ _ c.position.ensures.ran (YieldsList-from_slice c.args.patterns.now cc) (λ x b q k. search (rules, tests))
