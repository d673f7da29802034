-- An octet comes, or none.
use Rattle.modem_driver.proofs.EntrySteps.{came_as, none_came}
use Rattle.modem_driver.proofs.entry.Entry.read.Goals as goal

pub returns-in-None-clause-goes : goal.returns-in-None-clause-goes
returns-in-None-clause-goes g c =
    none_came _ _ c.args.self.now c.in_ok-octet.field-0 c.in-None.is c.in_ok-octet.ensures.came

pub returns-in-Some-clause-goes : goal.returns-in-Some-clause-goes
returns-in-Some-clause-goes g c =
    came_as _ _ record { text = c.self.inside.text.now; written = c.self.inside.written; kept = c.self.inside.reader } c.args.self.now c.see.new.reader c.in_ok-octet.field-0 c.in-Some.octet c.see.result c.step_by.result c.step_by.ensures
    c.self.view_is c.in-Some.is c.requires c.in_ok-octet.ensures.came c.see.ensures.keeps c.see.ensures.given
