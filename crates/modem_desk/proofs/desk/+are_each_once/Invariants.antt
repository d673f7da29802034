use Rattle.std.proofs.Common.{length}
use Rattle.modem_desk.proofs.desk.+are_each_once.Given as goal

abbrev pub decreases-are_each_once : goal.decreases-are_each_once
decreases-are_each_once l = length l.kinds.now
