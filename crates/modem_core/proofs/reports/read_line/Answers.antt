-- A line that ends is placed.
use Rattle.std.proofs.Common.{◌++◌, ◌∷◌, [], ◌∙◌, refl, sym}
use Rattle.std.proofs.Math.Seq.{take-length}
use Rattle.at_text.specs.Rules.{dialect_of}
use Rattle.at_text.specs.Runs.{kept_in}
use Rattle.at_text.specs.UnderWay.{window_of}
use Rattle.at_text.proofs.lines.UnfinishedLines.{reads_on}
use Rattle.at_text.proofs.windows.PlacedLines.{grown_none}
use Rattle.std.specs.Prelude.{None}
use Rattle.modem_core.specs.Reports.{reading_of}
use Rattle.modem_core.specs.Settling.{settled}
use Rattle.modem_core.proofs.lines.ReportedLines.{keeps_run, on_ok}
use Rattle.modem_core.proofs.lines.WholeAnswers.{grown_opened, line_behind, line_placed, stands_more, whole_opened}
use Rattle.modem_core.proofs.reports.read_line.Goals as goal

pub returns-in_default-clause-read : goal.returns-in_default-clause-read
returns-in_default-clause-read g c = λ a owner k e.
    let heard = g.P.LineRoom.heard c.args.lines.now in
    let w = window_of c.args.reading.now.command.now c.args.under_way.now in
    keeps_run (reading_of owner c.args.reading.now) (settled owner (kept_in c.args.line.now) w c.args.answer.now heard) (settled owner (kept_in c.end.follows.lender-at-none) w c.args.answer.now heard)
    (c.args.octets.now ++ k ∷ []) reads_on c.in_default.ensures.before (sym (c.in_default.ensures.line k e)) (c.end.follows.holds-at-none.0 k e) refl refl

pub returns-in_default-clause-grows : goal.returns-in_default-clause-grows
returns-in_default-clause-grows g c = grown_none (window_of c.args.reading.now.command.now c.args.under_way.now)

pub returns-then-is_some-clause-read : goal.returns-then-is_some-clause-read
returns-then-is_some-clause-read g c = on_ok _ _ c.hear_behind.result
    (λ says a owner k e.
    line_behind (reading_of owner c.args.reading.now) (c.args.octets.now ++ k ∷ []) c.in-Some.ended.text.now (kept_in c.args.line.now) (kept_in c.end.follows.lender-at-none) (window_of c.args.reading.now.command.now c.args.under_way.now)
    c.args.answer.now (g.P.LineRoom.heard c.args.lines.now) (g.P.LineRoom.heard c.hear_behind.new.lines) (sym c.is_some.ensures ∙ c.if-is_some.true) a c.in-Some.ensures.before (sym (c.in-Some.ensures.line k e)) (c.end.follows.holds-at-none.0 k e) (says owner))
    c.hear_behind.ensures.says

pub returns-then-is_some-clause-stands : goal.returns-then-is_some-clause-stands
returns-then-is_some-clause-stands g c = on_ok _ _ c.hear_behind.result
    (λ says. stands_more c.args.answer.now (window_of c.args.reading.now.command.now c.args.under_way.now) (g.P.LineRoom.heard c.args.lines.now) (g.P.LineRoom.heard c.hear_behind.new.lines)
    (c.hear_behind.ensures.begins (g.P.LineRoom.heard c.args.lines.now) (take-length (g.P.LineRoom.heard c.args.lines.now))))
    c.hear_behind.ensures.says

pub returns-then-is_some-clause-grows : goal.returns-then-is_some-clause-grows
returns-then-is_some-clause-grows g c = grown_none (window_of c.args.reading.now.command.now c.args.under_way.now)

pub returns-clause-read : goal.returns-clause-read
returns-clause-read g c = on_ok _ _ c.say.result
    (λ says a owner k e.
    let v = window_of c.args.reading.now.command.now c.place_by.new.self in
    line_placed (reading_of owner c.args.reading.now) (c.args.octets.now ++ k ∷ []) c.in-Some.ended.text.now (kept_in c.args.line.now) (kept_in c.end.follows.lender-at-none) (window_of c.args.reading.now.command.now c.args.under_way.now) v
    c.in-Ok.placed c.args.answer.now c.say.new.answer (g.P.LineRoom.heard c.args.lines.now) (g.P.LineRoom.heard c.say.new.lines) (sym c.is_some.ensures ∙ c.if-is_some.false) c.in-Some.ensures.before (sym (c.in-Some.ensures.line k e)) (c.end.follows.holds-at-none.0 k e)
    c.in-Ok.ensures.left c.in-Ok.ensures.said (says owner v))
    c.say.ensures.says

pub returns-clause-stands : goal.returns-clause-stands
returns-clause-stands g c = on_ok _ _ c.say.result
    (λ says a.
    let w = window_of c.args.reading.now.command.now c.args.under_way.now in
    let v = window_of c.args.reading.now.command.now c.place_by.new.self in
    (says None v).stands
    (λ is. grown_opened w v c.place_by.ensures.grows (whole_opened (dialect_of c.args.reading.now.dialect.now) w c.in-Some.ended.text.now c.in-Ok.placed c.in-Ok.ensures.placed is)))
    c.say.ensures.says
