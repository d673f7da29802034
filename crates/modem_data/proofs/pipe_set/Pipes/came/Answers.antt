-- One takes information of its connection.
use Rattle.std.proofs.Common.{rules, ◌≡◌, ◌<◌, length, get_or, slice_set, ap, subst, ◌∙◌, refl}
use Rattle.std.specs.Prelude.{true, OnOk}
use Rattle.mux_frame.specs.Frames.{frame_of}
use Rattle.mux_station.specs.Written.{is_data_frame}
use Rattle.std.proofs.lemmas.List.{get_or_default}
use Rattle.modem_data.specs.Passing.{Came}
use Rattle.modem_data.specs.Pipes.{Pipe, Leads}
use Rattle.modem_data.specs.PipeSets.{PipeSet, AllLead}
use Rattle.modem_data.proofs.PipeSetCalls.{came_by}
use Rattle.modem_data.proofs.pipe_set.Pipes.came.Goals as goal

pub returns-clause-leads : goal.returns-clause-leads
returns-clause-leads c =
    let old : PipeSet = record { role = c.self.inside.role; each = c.self.inside.each.items; turn = c.self.inside.turn } in
    let p = c.info.new.self in
    let place = c.in-Some.place in
    let there : place < length old.each = search rules in
    let here : (get_or old.each place p).watch.dlci ≡ c.args.frame.dlci.number = search rules in
    let it : c.index_mut.result.now ≡ get_or old.each place p = c.index_mut.ensures.value ∙ get_or_default old.each place c.index_mut.result.now p there in
    let new : PipeSet = record old { each = slice_set old.each place p } in
    let same : p.watch ≡ (get_or old.each place p).watch = c.info.ensures.same ∙ ap (λ (q : Pipe). q.watch) it in
    let f = frame_of c.args.frame in
    let it_is : is_data_frame f ≡ true = search rules in
    let leads = subst (λ (q : Pipe). OnOk c.info.result (Leads q p (Came f))) it c.info.ensures.leads in
    subst (λ (v : PipeSet). OnOk c.info.result (AllLead v new (Came f))) c.self.view_is (came_by old new place p f c.info.result it_is there here leads same refl)
