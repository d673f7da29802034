-- What is to be said of one is due.
use Rattle.std.proofs.Common.{rules, subst}
use Rattle.std.specs.Prelude.{IfSome}
use Rattle.modem_data.specs.Passing.{IsDue}
use Rattle.modem_data.specs.PipeSets.{PipeSet, IsFlowOf, OfEachPast}
use Rattle.modem_data.proofs.PipeSetCalls.{due_by}
use Rattle.modem_data.proofs.pipe_set.Pipes.due.Goals as goal

pub returns-clause-some : goal.returns-clause-some
returns-clause-some c =
    let old : PipeSet = record { role = c.self.inside.role; each = c.self.inside.each.items; turn = c.self.inside.turn } in
    let is : IfSome c.due_of.result (λ f. IsFlowOf old.each f.dlci.number f.go) = search rules in
    subst (λ (v : PipeSet). IfSome c.due_of.result (λ f. OfEachPast v (λ role past. IsDue role f.dlci.number past f.go))) c.self.view_is (due_by old c.due_of.result is)
