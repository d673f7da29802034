-- A line was driven with files, and its capture hasn't failed.
use Rattle.std.specs.Prelude.{Bool, refl}
use Rattle.std.proofs.Common.{sym, subst}
use Rattle.modem_desk.specs.declared.settling.Settled.{Settled}
use Rattle.std.specs.Duration.{as_nanos}
use Rattle.ctl_drive.specs.Driving.{period_of}
use Rattle.ctl_drive.specs.DataDevice.{DroveFilesCaptured}
use Rattle.ctl_drive.specs.Entry.{entry_for, given_text}
use Rattle.ctl_drive.proofs.DataDevice.{files_captured}
use Rattle.ctl_drive.proofs.data_device.drive_files_captured.Goals as goal

pub returns-clause-drove : goal.returns-clause-drove
returns-clause-drove g c none =
    let look = g.L.SerialLine.seen in
    let ended = c.in_ok-ended.ended in
    subst
    (λ (x : Bool × Settled). DroveFilesCaptured look g.P.SerialLine.seen c.args.settings.dialect.now (entry_for (given_text c.args.settings.entry) c.args.settings.n1) c.args.settings.n1 (period_of (as_nanos c.args.settings.tick)) c.args.line c.args.files.items (g.I.Read.remaining c.args.input) (g.W.Write.contents c.args.output.now) (g.W.Write.contents c.drive_files.new.output) (g.E.Write.contents c.args.faults.now) (g.E.Write.contents c.drive_files.new.faults) x.0 x.1)
    (λ i. (sym c.judge_capture.ensures.same.0 i, sym c.judge_capture.ensures.same.1 i))
    (files_captured look g.P.SerialLine.seen _ _ _ _ c.args.line c.args.capture c.new-line.result ended.0 c.args.files.items _ _ _ _ _ ended.1.fault ended.1.was_bad ended.1.left ended.0.capture.failed
    c.in_ok-ended.ensures.drove c.new-line.ensures (c.judge_capture.ensures.fault none) refl c.judge_capture.ensures.captures)
