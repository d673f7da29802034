-- The octets are the frame.
use Rattle.std.proofs.Common.{sym}
use Rattle.modem_driver.proofs.EntrySteps.{closes_down}
use Rattle.modem_driver.proofs.entry.close_down.Goals as goal

pub returns : goal.returns
returns c = sym closes_down
