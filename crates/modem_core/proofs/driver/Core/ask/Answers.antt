-- It is told at once, or was taken on.
use Rattle.std.specs.Prelude.{refl}
use Rattle.modem_core.proofs.requests.AskedRequests.{takes_on, takes_once}
use Rattle.modem_core.proofs.driver.Core.ask.Goals as goal

pub returns-in-Some-clause-takes : goal.returns-in-Some-clause-takes
returns-in-Some-clause-takes c =
    takes_once c.args.self.now c.ask_any.new.self c.args.outcomes.now.items c.ask_any.new.outcomes.items c.put_told.new.told.items c.args.request c.in-Some.answer c.ask_any.ensures.asked.lanes
    c.in-Some.ensures.asked.asks.0 c.in-Some.ensures.asked.asks.1 _ refl c.put_told.ensures.put

pub returns-in_default-clause-takes : goal.returns-in_default-clause-takes
returns-in_default-clause-takes c =
    takes_on c.args.self.now c.ask_any.new.self c.args.outcomes.now.items c.ask_any.new.outcomes.items c.args.request c.ask_any.ensures.asked.lanes c.in_default.ensures.asked.asks
