-- It is so of the pipe.
use Rattle.std.specs.Prelude.{◌≡◌, ◌<◌, length}
use Rattle.std.proofs.Common.{rules, get_or, subst}
use Rattle.modem_data.specs.Passing.{to_go}
use Rattle.modem_data.specs.Pipes.{Pipe}
use Rattle.modem_data.specs.PipeSets.{PipeSet, OfEachPast}
use Rattle.modem_data.proofs.PipeSetCalls.{to_go_at}
use Rattle.modem_data.proofs.pipe_set.Pipes.to_go.Goals as goal

pub returns-clause-count : goal.returns-clause-count
returns-clause-count c =
    let old : PipeSet = record { role = c.self.inside.role; each = c.self.inside.each.items; turn = c.self.inside.turn } in
    let p : Pipe = c.index.result.now in
    let place = c.in-Some.place in
    let there : place < length old.each = search rules in
    let here : (get_or old.each place p).watch.dlci ≡ c.args.dlci.number = search rules in
    let says : c.to_go.result ≡ length (get_or old.each place p).lane.to_go = search rules in
    subst (λ (v : PipeSet). OfEachPast v (λ role past. c.to_go.result ≡ to_go c.args.dlci.number past)) c.self.view_is (to_go_at old place p c.args.dlci.number c.to_go.result there here says)
