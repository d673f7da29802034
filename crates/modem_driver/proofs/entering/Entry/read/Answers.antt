-- An octet comes, or none.
use Rattle.std.specs.Prelude.{refl}
use Rattle.modem_driver.proofs.Entries.{failed, none_came_in, one_came, on_err}
use Rattle.modem_driver.proofs.entering.Entry.read.Goals as goal

pub returns-in_err-octet-clause-fails : goal.returns-in_err-octet-clause-fails
returns-in_err-octet-clause-fails g c = on_err c.from_residual.result
    (failed _ _ c.args.self.now c.in_err-octet.ensures.fault)

pub returns-in-None-clause-goes : goal.returns-in-None-clause-goes
returns-in-None-clause-goes g c =
    none_came_in _ _ c.args.self.now c.in_ok-octet.field-0 c.in-None.is c.in_ok-octet.ensures.came

pub returns-in-Some-clause-goes : goal.returns-in-Some-clause-goes
returns-in-Some-clause-goes g c =
    one_came _ _ record { written = c.self.inside.written; kept = c.self.inside.reader } c.args.self.now _ c.in_ok-octet.field-0 c.in-Some.octet c.see.result
    c.self.view_is c.in-Some.is c.requires refl c.in_ok-octet.ensures.came c.see.ensures.keeps c.see.ensures.given
