-- A device was driven with files, with a capture where the settings name one.
use Rattle.std.specs.Prelude.{None, is_some}
use Rattle.std.proofs.Common.{ap, ◌∙◌}
use Rattle.serial_line.specs.StreamLine.{StreamState}
use Rattle.std.specs.Duration.{as_nanos}
use Rattle.ctl_drive.specs.Driving.{period_of}
use Rattle.ctl_drive.specs.Entry.{entry_for, given_text}
use Rattle.ctl_drive.proofs.DataDevice.{all_fresh, drove_files_device, names_nothing_of, same_numbers}
use Rattle.ctl_drive.proofs.data_device.drive_data_path.Goals as goal

pub drive_files_by-requires-clause-fresh : goal.drive_files_by-requires-clause-fresh
drive_files_by-requires-clause-fresh g c = all_fresh c.args.data_paths.now c.args.files.items c.requires

pub drive_files_by-requires-clause-named : goal.drive_files_by-requires-clause-named
drive_files_by-requires-clause-named g c = same_numbers c.args.data_paths.now c.as_slice.result.now c.args.files.items c.requires (c.as_slice.ensures.value ∙ c.in_ok-named.ensures)

pub drive_files_by-requires-clause-none : goal.drive_files_by-requires-clause-none
drive_files_by-requires-clause-none g c = (ap (λ (l : StreamState). l.received) c.in_ok-line.ensures, ap (λ (l : StreamState). l.sent) c.in_ok-line.ensures)

pub returns-clause-drove : goal.returns-clause-drove
returns-clause-drove g c =
    drove_files_device _ (is_some (given_text c.args.settings.capture)) c.args.settings.dialect.now (entry_for (given_text c.args.settings.entry) c.args.settings.n1) c.args.settings.n1 (period_of (as_nanos c.args.settings.tick)) c.in_ok-line.field-0.line c.args.files.items _ (g.W.Write.contents c.args.output.now)
    (g.W.Write.contents c.drive_files_by.new.output) (g.E.Write.contents c.args.faults.now) (g.E.Write.contents c.drive_files_by.new.faults) c.drive_files_by.result c.in_ok-reader.ensures.wanted c.in_ok-line.ensures c.requires c.drive_files_by.ensures.drove

pub returns-in_err-named-clause-names : goal.returns-in_err-named-clause-names
returns-in_err-named-clause-names g c = names_nothing_of None (g.E.Write.contents c.args.faults.now)

pub returns-in_err-reader-clause-names : goal.returns-in_err-reader-clause-names
returns-in_err-reader-clause-names g c = names_nothing_of None (g.E.Write.contents c.args.faults.now)

pub returns-in_err-line-clause-names : goal.returns-in_err-line-clause-names
returns-in_err-line-clause-names g c = names_nothing_of None (g.E.Write.contents c.args.faults.now)
