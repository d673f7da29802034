-- Each list is empty.
use Rattle.std.proofs.Common.{rules, tests}
use Rattle.std.proofs.lemmas.Iterator.{YieldsList-from_slice}
use Rattle.std.proofs.lemmas.Iterator.Search.{all_from_yields_List}
use Rattle.ctl_drive.specs.Ending.{is_empty_list}
use Rattle.ctl_drive.proofs.ending.is_all_heard.Goals as goal

pub returns : goal.returns
returns c = all_from_yields_List is_empty_list _ _ _ c.all.ensures.ran (YieldsList-from_slice c.args.settled.now.unheard.items cc) (λ x b q k. search (rules, tests))
