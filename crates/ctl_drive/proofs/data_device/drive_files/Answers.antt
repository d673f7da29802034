-- The files went to their end.
use Rattle.std.proofs.Common.{ap, sym, ◌∙◌}
use Rattle.modem_data_line.specs.DataLines.{DataLineState}
use Rattle.std.specs.Duration.{as_nanos}
use Rattle.ctl_drive.specs.Driving.{period_of}
use Rattle.ctl_drive.specs.Entry.{entry_for, given_text}
use Rattle.ctl_drive.proofs.DataDevice.{drives_files, names_ends, names_only}
use Rattle.ctl_drive.proofs.data_device.drive_files.Goals as goal

pub returns-clause-drove : goal.returns-clause-drove
returns-clause-drove g c none =
    let look = g.L.SerialLine.seen in
    let both = c.fault_unless-fault.ensures none in
    drives_files look g.P.SerialLine.seen c.args.settings.dialect.now (entry_for (given_text c.args.settings.entry) c.args.settings.n1) c.args.settings.n1 (period_of (as_nanos c.args.settings.tick))
    c.args.line _ c.args.files.items c.in_ok-last.last c.write_out-is_written.new.line (g.I.Read.remaining c.args.input) (g.W.Write.contents c.args.output.now) (g.W.Write.contents c.drive_data_over.new.output) (g.E.Write.contents c.args.faults.now)
    (g.E.Write.contents c.drive_data_over.new.faults) (g.E.Write.contents c.say_files.new.faults) c.in_ok-last.driven.fault c.in_ok-last.driven.was_bad c.in_ok-last.driven.left c.in_ok-last.ensures.drove both.0 c.write_out-is_written.ensures.turns c.into_parts-line.ensures.moved
    (c.write_out-is_written.ensures.written both.1) (sym (c.into_parts-line-2.ensures.line ∙ ap (λ (l : DataLineState _). l.line) c.into_parts-line.ensures.line))
    c.say_files.ensures

pub returns-clause-names : goal.returns-clause-names
returns-clause-names g c = names_ends (g.I.Read.remaining c.args.input) (g.E.Write.contents c.args.faults.now) (g.E.Write.contents c.drive_data_over.new.faults) (g.E.Write.contents c.say_files.new.faults) c.say_files.ensures.ends c.in_ok-last.ensures.names c.say_files.ensures.said

pub returns-in_err-last-clause-names : goal.returns-in_err-last-clause-names
returns-in_err-last-clause-names g c = names_only (g.I.Read.remaining c.args.input) (g.E.Write.contents c.args.faults.now) (g.E.Write.contents c.drive_data_over.new.faults) c.drive_data_over.ensures.names
