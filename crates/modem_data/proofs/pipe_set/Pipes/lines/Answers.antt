-- A lane of one is over.
use Rattle.std.proofs.Common.{rules, ◌≡◌, ◌<◌, ℕ, length, get_or, slice_set, ap, subst, ◌∙◌, refl}
use Rattle.std.proofs.lemmas.List.{get_or_default}
use Rattle.modem_data.specs.Passing.{EndedLane}
use Rattle.modem_data.specs.Pipes.{Pipe, Leads}
use Rattle.modem_data.specs.PipeSets.{PipeSet, AllLead}
use Rattle.modem_data.proofs.PipeSetCalls.{one_ended}
use Rattle.modem_data.proofs.pipe_set.Pipes.lines.Goals as goal

pub returns-clause-ended : goal.returns-clause-ended
returns-clause-ended c =
    let old : PipeSet = record { role = c.self.inside.role; each = c.self.inside.each.items; turn = c.self.inside.turn } in
    let p = c.lines.new.self in
    let place = c.in-Some.place in
    let there : place < length old.each = search rules in
    let here : (get_or old.each place p).watch.dlci ≡ c.args.dlci.number = search rules in
    let it : c.index_mut.result.now ≡ get_or old.each place p = c.index_mut.ensures.value ∙ get_or_default old.each place c.index_mut.result.now p there in
    let new : PipeSet = record old { each = slice_set old.each place p } in
    let same : p.watch ≡ (get_or old.each place p).watch = c.lines.ensures.same ∙ ap (λ (q : Pipe). q.watch) it in
    let leads = subst (λ (q : Pipe). Leads q p (EndedLane q.watch.dlci)) it c.lines.ensures.leads in
    let led = subst (λ (e : ℕ). Leads (get_or old.each place p) p (EndedLane e)) here leads in
    subst (λ (v : PipeSet). AllLead v new (EndedLane c.args.dlci.number)) c.self.view_is (one_ended old new place p c.args.dlci.number there here led same refl)
