-- A line is heard where its kind is listened to.
use Rattle.std.proofs.Common.{◌≡◌, ℕ, List, [], ◌∷◌, ◌++◌, ap, ◌∙◌}
use Rattle.modem_history.specs.Acts.{Heard}
use Rattle.modem_history.specs.Sessions.{heard_as}
use Rattle.modem_core.specs.Reports.{reading_of}
use Rattle.modem_core.proofs.lines.ReportedLines.{unheard, heard, on_ok}
use Rattle.modem_core.proofs.lines.WholeAnswers.{starts_on}
use Rattle.modem_core.proofs.reports.hear.Goals as goal

pub returns-then-not-is_heard-clause-says : goal.returns-then-not-is_heard-clause-says
returns-then-not-is_heard-clause-says g c = λ owner. unheard (reading_of owner c.args.reading.now) c.args.kind c.args.line.now (g.P.LineRoom.heard c.args.lines.now) c.is_heard.result c.if-not-is_heard.true c.is_heard.ensures

pub returns-clause-says : goal.returns-clause-says
returns-clause-says g c =
    let text : c.in_ok-text.text.items ≡ c.args.line.now = c.in_ok-text.ensures.items_if_clones_equal (λ x y e. e) in
    on_ok _ _ c.hear.result
    (λ e owner.
    heard (reading_of owner c.args.reading.now) c.args.kind c.args.line.now (g.P.LineRoom.heard c.args.lines.now) (g.P.LineRoom.heard c.hear.new.self) c.is_heard.result c.if-not-is_heard.false c.is_heard.ensures
    (e ∙ ap (λ (line : List ℕ). g.P.LineRoom.heard c.args.lines.now ++ Heard c.args.kind c.args.reading.now.dlci.number line ∷ []) (c.from.ensures ∙ text)))
    c.hear.ensures.ok

pub returns-clause-begins : goal.returns-clause-begins
returns-clause-begins g c = λ was. starts_on c.hear.result was (g.P.LineRoom.heard c.args.lines.now) (g.P.LineRoom.heard c.hear.new.self) (heard_as (record { kind = c.args.kind; dlci = c.args.reading.now.dlci; line = c.from.result })) c.hear.ensures.ok c.hear.ensures.err
