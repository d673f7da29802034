use Rattle.std.proofs.Common.{rules, tests}
use Rattle.std.proofs.lemmas.Iterator.{YieldsList-from_slice}
use Rattle.std.proofs.lemmas.Iterator.Search.{find_from_yields_List}
use Rattle.at_text.specs.Deciding.{can_meet}
use Rattle.at_text.specs.Rules.{pattern}
use Rattle.at_text.specs.StandardRules.{standard_pattern}
use Rattle.ctl_text.proofs.clashes.first_in.Goals as goal

pub returns : goal.returns
returns c =
    find_from_yields_List (λ s. can_meet (pattern c.args.form c.args.text.now) (standard_pattern s)) _ _ _ c.find.ensures.ran (YieldsList-from_slice c.args.lines.now cc) (λ x b q k. search (rules, tests))
