-- What is said of a line is by what it is at its place.
use Rattle.modem_core.specs.Reports.{reading_of}
use Rattle.modem_core.proofs.lines.ReportedLines.{on_ok}
use Rattle.modem_core.proofs.lines.WholeAnswers.{quiet_placed, whole_placed, unsolicited_placed, other_placed}
use Rattle.modem_core.proofs.reports.say.Goals as goal

pub returns-in-Echo-clause-says : goal.returns-in-Echo-clause-says
returns-in-Echo-clause-says g c = λ owner w. quiet_placed (reading_of owner c.args.reading.now) c.args.line.now c.args.placed w (g.P.LineRoom.heard c.args.lines.now) c.args.answer.now c.requires c.in-Echo.is

pub returns-in-Whole-clause-says : goal.returns-in-Whole-clause-says
returns-in-Whole-clause-says g c = λ owner w. whole_placed (reading_of owner c.args.reading.now) c.args.line.now c.args.placed w (g.P.LineRoom.heard c.args.lines.now) c.len.result c.in-Whole.is c.len.ensures

pub returns-in-Unsolicited-clause-says : goal.returns-in-Unsolicited-clause-says
returns-in-Unsolicited-clause-says g c = on_ok _ _ c.hear.result
    (λ says owner w. unsolicited_placed (reading_of owner c.args.reading.now) c.args.line.now c.args.placed c.in-Unsolicited.kind w (g.P.LineRoom.heard c.args.lines.now) (g.P.LineRoom.heard c.hear.new.lines) c.args.answer.now c.requires c.in-Unsolicited.is (says owner))
    c.hear.ensures.says

pub returns-in-Other-clause-says : goal.returns-in-Other-clause-says
returns-in-Other-clause-says g c = on_ok _ _ c.hear-in-Other.result
    (λ says owner w. other_placed (reading_of owner c.args.reading.now) c.args.line.now c.args.placed w (g.P.LineRoom.heard c.args.lines.now) (g.P.LineRoom.heard c.hear-in-Other.new.lines) c.args.answer.now c.requires c.in-Other.is (says owner))
    c.hear-in-Other.ensures.says
