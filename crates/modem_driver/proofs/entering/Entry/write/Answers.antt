-- The rest of the text is offered.
use Rattle.std.specs.Prelude.{refl}
use Rattle.modem_driver.proofs.Entries.{wrote_as, failed, on_err}
use Rattle.modem_driver.proofs.entering.Entry.write.Goals as goal

pub returns-in_err-self-inside-clause-fails : goal.returns-in_err-self-inside-clause-fails
returns-in_err-self-inside-clause-fails g c = on_err c.from_residual.result
    (failed _ _ c.args.self.now c.in_err-self-inside.ensures.err)

pub returns-clause-goes : goal.returns-clause-goes
returns-clause-goes g c =
    wrote_as _ _ record { written = c.self.inside.written; kept = c.self.inside.reader } c.args.self.now _ c.in_ok-self-inside.field-0
    c.self.view_is c.requires c.in_ok-self-inside.ensures.bound c.in_ok-self-inside.ensures.ok refl
