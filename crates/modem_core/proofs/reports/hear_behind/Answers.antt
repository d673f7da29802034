-- Behind an answer that is whole no window is open.
use Rattle.std.proofs.Common.{subst}
use Rattle.std.specs.Prelude.{Option}
use Rattle.at_text.specs.declared.unsolicited.UrcKind.{UrcKind}
use Rattle.at_text.specs.declared.window.Seen.TheVariants.{Other}
use Rattle.at_text.specs.Seeing.{by_kind}
use Rattle.modem_core.specs.Reports.{ReportSays, reading_of, said_as}
use Rattle.modem_core.proofs.lines.ReportedLines.{on_ok}
use Rattle.modem_core.proofs.reports.hear_behind.Goals as goal

pub returns-in-Some-clause-says : goal.returns-in-Some-clause-says
returns-in-Some-clause-says g c = on_ok _ _ c.hear.result
    (λ says owner.
    subst (λ (kind : Option UrcKind). ReportSays (reading_of owner c.args.reading.now) (λ listens. said_as listens c.args.reading.now.dlci.number owner c.args.line.now (by_kind kind Other))
    (g.P.LineRoom.heard c.args.lines.now) (g.P.LineRoom.heard c.hear.new.lines)) c.in-Some.ensures.kind (says owner)) c.hear.ensures.says

pub returns-in-None-clause-says : goal.returns-in-None-clause-says
returns-in-None-clause-says g c = on_ok _ _ c.hear-in-None.result
    (λ says owner.
    subst (λ (kind : Option UrcKind). ReportSays (reading_of owner c.args.reading.now) (λ listens. said_as listens c.args.reading.now.dlci.number owner c.args.line.now (by_kind kind Other))
    (g.P.LineRoom.heard c.args.lines.now) (g.P.LineRoom.heard c.hear-in-None.new.lines)) c.in-None.ensures.kind (says owner)) c.hear-in-None.ensures.says
