-- The code that came says how the entry ends.
use Rattle.modem_c.proofs.Heard.{ends_by, turned_down}
use Rattle.modem_c.proofs.entries.calls.take_in.Goals as goal

pub returns-clause-entered : goal.returns-clause-entered
returns-clause-entered c is = ends_by c.args.entry.now c.hear-heard.new.self _ c.hear-heard.result.code _ (c.code_number.ensures.good.0 is) c.hear-heard.ensures.hears

pub returns-clause-turned_down : goal.returns-clause-turned_down
returns-clause-turned_down c is =
    turned_down c.args.entry.now c.hear-heard.new.self _ c.hear-heard.result.code c.code_number.result c.code_number.ensures.none c.code_number.ensures.good is c.hear-heard.ensures.hears
