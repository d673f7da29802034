-- A line was driven.
use Rattle.ctl_drive.proofs.OnDevice.{well}
use Rattle.ctl_drive.proofs.on_device.drive_plain.Goals as goal

pub returns-clause-drove : goal.returns-clause-drove
returns-clause-drove g c = well _ _ _ _ _ _ _ _ _ _ _ _ _ _ _ c.in_ok-driven.ensures.drove
