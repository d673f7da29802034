-- A line was driven with files.
use Rattle.ctl_drive.proofs.data_device.drive_files_plain.Goals as goal

pub returns-clause-drove : goal.returns-clause-drove
returns-clause-drove g c none = record { last = _; drove = c.in_ok-driven.ensures.drove none }
