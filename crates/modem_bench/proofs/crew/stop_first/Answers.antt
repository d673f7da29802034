use Rattle.std.proofs.lemmas.Result.{on_ok_weaker}
use Rattle.modem_bench.proofs.CallerThreads.{stops_first}
use Rattle.modem_bench.proofs.crew.stop_first.Goals as goal

pub returns : goal.returns
returns g c = on_ok_weaker c.stop.result (stops_first c.args.back.now.items c.index_mut-first.result.now c.stop.new.caller c.requires c.index_mut-first.ensures.value) c.stop.ensures
