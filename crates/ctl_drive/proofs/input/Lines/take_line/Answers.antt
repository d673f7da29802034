-- A line that LF ends, or none.
use Rattle.ctl_drive.proofs.Reading.{reads_from, reads_taken}
use Rattle.ctl_drive.proofs.input.Lines.take_line.Goals as goal

pub returns-clause-reads : goal.returns-clause-reads
returns-clause-reads g c =
    reads_from _ _ _ _ c.self.view_is
    (reads_taken (g.I.Read.remaining c.self.inside.input) c.self.inside.text.items c.cut_line.new.text.items c.self.inside.ended c.self.inside.failed c.in_ok-cut_line.field-0 c.in_ok-cut_line.ensures)
