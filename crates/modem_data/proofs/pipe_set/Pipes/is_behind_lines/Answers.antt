-- It is so of the pipe, or there is none.
use Rattle.std.specs.Prelude.{◌≡◌, ◌<◌, false, length}
use Rattle.std.proofs.Common.{rules, get_or, subst}
use Rattle.modem_data.specs.Switching.{is_behind_lines}
use Rattle.modem_data.specs.Passing.{carries}
use Rattle.modem_data.specs.Pipes.{Pipe, SaysBehind}
use Rattle.modem_data.specs.PipeSets.{PipeSet, NoneOf, OfEachPast, connections}
use Rattle.modem_data.proofs.PipeSetCalls.{behind_at, not_behind}
use Rattle.modem_data.proofs.pipe_set.Pipes.is_behind_lines.Goals as goal

pub returns-in_default : goal.returns-in_default
returns-in_default c =
    let old : PipeSet = record { role = c.self.inside.role; each = c.self.inside.each.items; turn = c.self.inside.turn } in
    let none : NoneOf (connections old.each) c.args.dlci.number = search rules in
    subst (λ (v : PipeSet). OfEachPast v (λ role past. false ≡ is_behind_lines (carries role c.args.dlci.number past))) c.self.view_is (not_behind old c.args.dlci.number none)

pub returns : goal.returns
returns c =
    let old : PipeSet = record { role = c.self.inside.role; each = c.self.inside.each.items; turn = c.self.inside.turn } in
    let p : Pipe = c.index.result.now in
    let place = c.in-Some.place in
    let there : place < length old.each = search rules in
    let here : (get_or old.each place p).watch.dlci ≡ c.args.dlci.number = search rules in
    let says : SaysBehind (get_or old.each place p) c.is_behind_lines.result = search rules in
    subst (λ (v : PipeSet). OfEachPast v (λ role past. c.is_behind_lines.result ≡ is_behind_lines (carries role c.args.dlci.number past))) c.self.view_is (behind_at old place p c.args.dlci.number c.is_behind_lines.result there here says)
