-- The line of this way is read on.
use Rattle.std.specs.Prelude.{◌≡◌, [], ◌∷◌}
use Rattle.std.proofs.Common.{subst}
use Rattle.at_text.specs.Rules.{dialect_of}
use Rattle.modem_show.specs.Talking.{Talk, heard}
use Rattle.modem_show.proofs.Hearing.{both_ok, driver_says, modem_says}
use Rattle.modem_show.proofs.talk.Talk.push.Goals as goal

pub returns-in-ToModem-clause-kept : goal.returns-in-ToModem-clause-kept
returns-in-ToModem-clause-kept c =
    let t : Talk = record { driver = c.self.inside.driver; modem = c.self.inside.modem; window = c.self.inside.window } in
    both_ok _ _ _ c.read_driver.result
    (λ a b. subst (λ (v : Talk). record { driver = c.read_driver.new.reader; modem = c.self.inside.modem; window = c.read_driver.new.window } ≡ heard (dialect_of c.args.dialect.now) c.args.direction v (c.args.octet ∷ []))
    c.self.view_is
    (driver_says (dialect_of c.args.dialect.now) c.args.direction t (c.args.octet ∷ []) c.read_driver.new.reader c.read_driver.new.window c.in-ToModem.is a b))
    c.read_driver.ensures.run (c.read_driver.ensures.window (dialect_of c.args.dialect.now))

pub returns-in-FromModem-clause-kept : goal.returns-in-FromModem-clause-kept
returns-in-FromModem-clause-kept c =
    let t : Talk = record { driver = c.self.inside.driver; modem = c.self.inside.modem; window = c.self.inside.window } in
    both_ok _ _ _ c.read_modem.result
    (λ a b. subst (λ (v : Talk). record { driver = c.self.inside.driver; modem = c.read_modem.new.reader; window = c.read_modem.new.window } ≡ heard (dialect_of c.args.dialect.now) c.args.direction v (c.args.octet ∷ []))
    c.self.view_is
    (modem_says (dialect_of c.args.dialect.now) c.args.direction t (c.args.octet ∷ []) c.read_modem.new.reader c.read_modem.new.window c.in-FromModem.is a b))
    c.read_modem.ensures.run c.read_modem.ensures.window
