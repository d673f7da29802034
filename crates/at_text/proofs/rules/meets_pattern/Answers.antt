use Rattle.std.proofs.Common.{rules, tests}
use Rattle.std.proofs.lemmas.Iterator.{YieldsList-from_slice}
use Rattle.std.proofs.lemmas.Iterator.Search.{any_from_yields_List}
use Rattle.at_text.specs.Deciding.{can_meet, lent}
use Rattle.at_text.proofs.rules.meets_pattern.Goals as goal

pub returns : goal.returns
returns c = any_from_yields_List (λ p. can_meet (lent c.args.rule) p) _ _ _ c.any.ensures.ran (YieldsList-from_slice c.args.patterns.now cc) (λ x b q k. search (rules, tests))
