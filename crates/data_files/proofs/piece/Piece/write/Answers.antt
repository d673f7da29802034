use Rattle.std.specs.Prelude.{take, drop, List, ℕ, ◌++◌}
use Rattle.std.proofs.Common.{ap, sym, ◌∙◌}
use Rattle.std.proofs.lemmas.List.{drop-drop}
use Rattle.serial_line.specs.LineViews.{LineView}
use Rattle.data_files.proofs.Waiting.{splits}
use Rattle.data_files.proofs.piece.Piece.write.Goals as goal

pub returns-clause-split : goal.returns-clause-split
returns-clause-split g c = splits (g.P.SerialLine.seen c.args.file.now).sent (g.P.SerialLine.seen c.try_write.new.self).sent c.args.self.now _ c.in_ok-count.count
    (ap (λ (l : LineView). l.sent) c.in_ok-count.ensures.ok ∙ ap (λ (xs : List ℕ). (g.P.SerialLine.seen c.args.file.now).sent ++ take c.in_ok-count.count xs) c.as_slice.ensures.value)
    (sym (drop-drop c.in_ok-count.count c.self.inside.start (take c.self.inside.end c.self.inside.octets)) ∙ ap (λ (xs : List ℕ). drop c.in_ok-count.count xs) c.self.view_is)
