use Rattle.std.proofs.lemmas.Result.{on_ok_weaker}
use Rattle.modem_bench.proofs.CallerThreads.{opens_first}
use Rattle.modem_bench.proofs.crew.open_first.Goals as goal

pub returns : goal.returns
returns g c = on_ok_weaker c.open_all.result (opens_first c.args.submissions.now c.args.callers.now.items c.index_mut-first.result.now c.open_all.new.caller c.requires c.index_mut-first.ensures.value) c.open_all.ensures
