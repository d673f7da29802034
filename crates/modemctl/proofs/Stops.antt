-- Why a run ends without its output.
use Rattle.std.specs.Prelude.{◌<◌, ◌≤◌}
use Rattle.std.proofs.Common.{arith}
use Rattle.ctl_run.specs.Statuses.{status_of}
use Rattle.ctl_run.specs.declared.stop.Stop.{Stop}

-- its status is 1 or 2
pub stops_badly : (stop : Stop) → (0 < status_of stop) × (status_of stop ≤ 2)
stops_badly Stop.NoMemory = (omega arith, omega arith)
stops_badly Stop.Input = (omega arith, omega arith)
stops_badly Stop.Output = (omega arith, omega arith)
stops_badly Stop.Line = (omega arith, omega arith)
stops_badly (Stop.GaveUp cause) = (omega arith, omega arith)
stops_badly Stop.BadN1 = (omega arith, omega arith)
stops_badly Stop.BadCallers = (omega arith, omega arith)
stops_badly Stop.BadCut = (omega arith, omega arith)
stops_badly (Stop.BadLine place why) = (omega arith, omega arith)
stops_badly (Stop.Dialect fault) = (omega arith, omega arith)
