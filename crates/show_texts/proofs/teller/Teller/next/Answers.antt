-- Which frame comes next.
use Rattle.std.proofs.Common.{rules}
use Rattle.show_texts.proofs.Merged.{driver_alone_comes, driver_comes, modem_alone_comes, modem_comes}
use Rattle.show_texts.proofs.teller.Teller.next.Goals as goal

pub returns-in-empty-len1-up-clause-comes : goal.returns-in-empty-len1-up-clause-comes
returns-in-empty-len1-up-clause-comes c written items h =
    modem_alone_comes _ items c.args.to.now c.args.from.now c.first-item.result _ (search rules) (search rules) c.first-item.is c.view.ensures

pub returns-in-len1-up-empty-clause-comes : goal.returns-in-len1-up-empty-clause-comes
returns-in-len1-up-empty-clause-comes c written items h =
    driver_alone_comes _ items c.args.to.now c.args.from.now c.first-item-then-this-lt1.result _ (search rules) (search rules) c.first-item-then-this-lt1.is c.view-in-len1-up-empty.ensures

pub returns-then-waits-clause-comes : goal.returns-then-waits-clause-comes
returns-then-waits-clause-comes c written items h =
    modem_comes _ items c.args.to.now c.args.from.now c.ours-item.result c.theirs-item.result c.waits.result _ _ (search rules) (search rules)
    c.ours-item.is c.theirs-item.is c.view-in-len1-up-len1-up.ensures c.view-then-waits.ensures (c.waits.ensures written items h) c.if-waits.true

pub returns-else-waits-clause-comes : goal.returns-else-waits-clause-comes
returns-else-waits-clause-comes c written items h =
    driver_comes _ items c.args.to.now c.args.from.now c.ours-item.result c.theirs-item.result c.waits.result _ _ (search rules) (search rules)
    c.ours-item.is c.theirs-item.is c.view-in-len1-up-len1-up.ensures c.view-else-waits.ensures (c.waits.ensures written items h) c.if-waits.false
