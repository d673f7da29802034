use Rattle.std.proofs.Common.{arith}
use Rattle.modem_bench.proofs.CallerThreads.{opened_long}
use Rattle.modem_bench.proofs.crew.call.Goals as goal

pub work_all-requires-after_bounds : goal.work_all-requires-after_bounds
work_all-requires-after_bounds g c =
    let long = opened_long c.args.submissions.now c.args.callers.items c.open_first.new.callers.items c.in_ok-open_first.ensures in
    let few = c.requires in
    omega (arith, long, few)
