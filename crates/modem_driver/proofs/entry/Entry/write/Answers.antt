-- The rest of the text is offered.
use Rattle.modem_driver.proofs.EntrySteps.{wrote_some, wrote_none}
use Rattle.modem_driver.proofs.entry.Entry.write.Goals as goal

pub returns-then-count-eq0-clause-goes : goal.returns-then-count-eq0-clause-goes
returns-then-count-eq0-clause-goes g c =
    wrote_none _ _ record { text = c.self.inside.text.now; written = c.self.inside.written; kept = c.self.inside.reader } c.args.self.now c.in_ok-count.count
    c.self.view_is c.requires c.in_ok-count.ensures.bound c.in_ok-count.ensures.ok

pub returns-clause-goes : goal.returns-clause-goes
returns-clause-goes g c =
    wrote_some _ _ record { text = c.self.inside.text.now; written = c.self.inside.written; kept = c.self.inside.reader } c.args.self.now c.in_ok-count.count
    c.self.view_is c.requires c.in_ok-count.ensures.bound c.in_ok-count.ensures.ok
