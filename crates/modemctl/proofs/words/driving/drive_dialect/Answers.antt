-- The codes of a drive can't be had.
use Rattle.std.proofs.Common.{ap}
use Rattle.modemctl.proofs.Refused.{connect_said}
use Rattle.modemctl.proofs.words.driving.drive_dialect.Goals as goal

pub returns-then-arm_of-clause-said : goal.returns-then-arm_of-clause-said
returns-then-arm_of-clause-said g c = connect_said _ _ _ _ _ (ap g.E.Write.contents c.in_ok-dialect.ensures.silent) c.with_connect.ensures.said
