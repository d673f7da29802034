use Rattle.std.specs.Prelude.{Option}
use Rattle.std.proofs.Common.{ap, sym, subst, ◌∙◌}
use Rattle.at_text.specs.Rules.{dialect_of}
use Rattle.at_text.specs.OpenWindow.{OpenWindow}
use Rattle.at_text.specs.UnderWay.{UnderWay, window_of}
use Rattle.at_text.specs.InPlace.{Grows, said_where, left_where, placed_by}
use Rattle.at_text.proofs.windows.PlacedLines.{placed_says, placed_leaves, grown_none, grown_placed}
use Rattle.at_text.proofs.under_way.UnderWay.place_by.Goals as goal

pub returns-in_err-placed-clause-grows : goal.returns-in_err-placed-clause-grows
returns-in_err-placed-clause-grows c =
    let was = window_of c.args.command.now c.args.self.now in
    subst (λ (u : Option UnderWay). Grows was (window_of c.args.command.now u)) (sym c.in_err-placed.ensures.err) (grown_none was)

pub returns-clause-said : goal.returns-clause-said
returns-clause-said c =
    let was = window_of c.args.command.now c.args.self.now in
    placed_says (dialect_of c.args.dialect.now) was c.args.line.now
    ∙ ap (λ (w : Option OpenWindow). said_where (placed_by (dialect_of c.args.dialect.now) was c.args.line.now) w) (sym c.in_ok-placed.ensures.after)
    ∙ ap (λ p. said_where p (window_of c.args.command.now c.place.new.self)) (sym c.in_ok-placed.ensures.placed)

pub returns-clause-left : goal.returns-clause-left
returns-clause-left c =
    let was = window_of c.args.command.now c.args.self.now in
    placed_leaves (dialect_of c.args.dialect.now) was c.args.line.now
    ∙ ap (λ (w : Option OpenWindow). left_where (placed_by (dialect_of c.args.dialect.now) was c.args.line.now) w) (sym c.in_ok-placed.ensures.after)
    ∙ ap (λ p. left_where p (window_of c.args.command.now c.place.new.self)) (sym c.in_ok-placed.ensures.placed)

pub returns-clause-grows : goal.returns-clause-grows
returns-clause-grows c =
    let was = window_of c.args.command.now c.args.self.now in
    subst (λ (w : Option OpenWindow). Grows was w) (sym c.in_ok-placed.ensures.after) (grown_placed (dialect_of c.args.dialect.now) was c.args.line.now)
