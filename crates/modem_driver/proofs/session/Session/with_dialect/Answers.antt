-- The history is empty.
use Rattle.at_text.specs.Rules.{dialect_of}
use Rattle.modem_driver.proofs.sessions.steps.StartAndTick.{begins_over, least_n1}
use Rattle.modem_driver.proofs.session.Session.with_dialect.Goals as goal

pub returns-in-Ok-clause-begins : goal.returns-in-Ok-clause-begins
returns-in-Ok-clause-begins g c =
    let l = g.L.SerialLine.seen c.args.line in
    let rules = c.args.dialect.now in
    begins_over rules (dialect_of rules) c.args.n1 c.args.driver.desk.kinds c.in-Ok.machine l c.args.driver (least_n1 c.args.n1 _ _ c.in-Ok.ensures.bad_n1) c.in-Ok.ensures.fresh (c.in-Ok.ensures.begins l)
