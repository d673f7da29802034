-- A device was driven with files, and the status says so.
use Rattle.std.specs.Prelude.{false, is_some, refl}
use Rattle.std.proofs.Common.{inl, inr}
use Rattle.file_threads.specs.DataPaths.{opened_files}
use Rattle.std.specs.Duration.{as_nanos}
use Rattle.ctl_drive.specs.Driving.{period_of}
use Rattle.ctl_drive.specs.Entry.{entry_for, given_text}
use Rattle.ctl_drive.specs.OnDevice.{capture_path}
use Rattle.ctl_drive.specs.declared.fault.DriveFault.TheVariants.{NoMemory}
use Rattle.ctl_drive.proofs.DataDevice.{files_by_capture, capture_of, files_badly, files_refused, ran_files}
use Rattle.ctl_drive.proofs.data_device.drive_data_run.Goals as goal

pub returns-in_default-clause-fault : goal.returns-in_default-clause-fault
returns-in_default-clause-fault g c one =
    files_refused c.args.path.now (capture_path c.args.settings.capture) c.args.path.now c.args.data_paths.now (g.E.Write.contents c.args.faults.now) (g.E.Write.contents c.say_fault.new.faults) NoMemory (inl refl) c.say_fault.ensures.said

pub returns-in-Err-clause-fault : goal.returns-in-Err-clause-fault
returns-in-Err-clause-fault g c one =
    files_by_capture c.args.path.now _ c.unwrap_or.result.now c.args.data_paths.now (g.E.Write.contents c.args.faults.now) (g.E.Write.contents c.say_fault-in-Err.new.faults) (capture_of c.args.settings.capture _ c.unwrap_or.result c.unwrap_or.ensures refl)
    (files_refused c.args.path.now c.unwrap_or.result.now c.in-Err.unopened.path.now c.args.data_paths.now (g.E.Write.contents c.args.faults.now) (g.E.Write.contents c.say_fault-in-Err.new.faults) c.from.result (inr c.in-Err.ensures.refused)
    c.say_fault-in-Err.ensures.said)

pub returns-clause-drove : goal.returns-clause-drove
returns-clause-drove g c other =
    ran_files _ _ (is_some (given_text c.args.settings.capture)) c.args.settings.dialect.now (entry_for (given_text c.args.settings.entry) c.args.settings.n1) c.args.settings.n1 (period_of (as_nanos c.args.settings.tick)) (opened_files false c.args.data_paths.now) (g.W.Write.contents c.args.output.now)
    (g.W.Write.contents c.drive_data_path-ended.new.output) (g.E.Write.contents c.args.faults.now) (g.E.Write.contents c.drive_data_path-ended.new.faults) (g.E.Write.contents c.say_full-is_written.new.faults) (g.E.Write.contents c.say_end.new.faults) c.drive_data_path-ended.result c.end_by.result
    c.say_full-is_written.result c.say_end.result c.drive_data_path-ended.ensures.drove c.say_full-is_written.ensures c.end_by.ensures c.say_end.ensures.said c.say_end.ensures.status other

pub returns-clause-fault : goal.returns-clause-fault
returns-clause-fault g c one =
    files_by_capture c.args.path.now _ c.unwrap_or.result.now c.args.data_paths.now (g.E.Write.contents c.args.faults.now) (g.E.Write.contents c.say_end.new.faults) (capture_of c.args.settings.capture _ c.unwrap_or.result c.unwrap_or.ensures refl)
    (files_badly c.args.path.now c.unwrap_or.result.now c.args.data_paths.now (g.E.Write.contents c.args.faults.now) (g.E.Write.contents c.drive_data_path-ended.new.faults) (g.E.Write.contents c.say_full-is_written.new.faults) (g.E.Write.contents c.say_end.new.faults) c.end_by.result c.say_full-is_written.result c.say_end.result
    c.drive_data_path-ended.ensures.names c.say_full-is_written.ensures c.say_end.ensures.said c.say_end.ensures.status one)
