use Rattle.std.specs.Prelude.{take, drop, List, ℕ, ◌++◌}
use Rattle.std.proofs.Common.{ap, sym, ◌∙◌}
use Rattle.std.proofs.lemmas.List.{drop-drop}
use Rattle.serial_line.specs.LineViews.{LineView}
use Rattle.data_files.proofs.Keeping.{tail_is}
use Rattle.data_files.proofs.Waiting.{splits}
use Rattle.data_files.proofs.kept.Kept.write.Goals as goal

pub returns-clause-split : goal.returns-clause-split
returns-clause-split g c = splits (g.P.SerialLine.seen c.args.file.now).sent (g.P.SerialLine.seen c.try_write.new.self).sent c.args.self.now _ c.in_ok-count.count
    (ap (λ (l : LineView). l.sent) c.in_ok-count.ensures.ok ∙ ap (λ (xs : List ℕ). (g.P.SerialLine.seen c.args.file.now).sent ++ take c.in_ok-count.count xs)
    (tail_is c.self.inside.start c.deref.result.now c.self.inside.octets.items c.deref.ensures.value ∙ c.self.view_is))
    (sym (drop-drop c.in_ok-count.count c.self.inside.start c.self.inside.octets.items) ∙ ap (λ (xs : List ℕ). drop c.in_ok-count.count xs) c.self.view_is)
