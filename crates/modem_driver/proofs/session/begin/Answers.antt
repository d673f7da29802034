-- Nothing has happened yet.
use Rattle.modem_driver.proofs.sessions.steps.StartAndTick.{all_begin}
use Rattle.modem_driver.proofs.session.begin.Goals as goal

pub returns-clause-begins : goal.returns-clause-begins
returns-clause-begins c = all_begin c.args.dialect.now c.args.n1 c.with_dialect.result c.args.driver.now c.kinds.result.now c.kinds.ensures c.with_dialect.ensures.ok c.with_dialect.ensures.past c.with_dialect.ensures.held
