-- Data of one is read.
use Rattle.std.proofs.Common.{rules, ◌≡◌, ◌<◌, length, get_or, slice_set, ap, subst, ◌∙◌, refl}
use Rattle.std.specs.Prelude.{ℕ, min, take}
use Rattle.modem_data.specs.Passing.{Read, unread}
use Rattle.modem_data.specs.Pipes.{Pipe, Leads, SaysOver}
use Rattle.modem_data.specs.Watching.{Watch}
use Rattle.modem_data.specs.PipeSets.{PipeSet, AllLead, OfEachPast}
use Rattle.modem_data.proofs.PipeSetCalls.{one_read, reads_at, over_at}
use Rattle.std.proofs.lemmas.List.{get_or_default, length-set, get_or-set_same}
use Rattle.std.proofs.Common.{sym}
use Rattle.modem_data.proofs.pipe_set.Pipes.read.Goals as goal

pub returns-clause-count : goal.returns-clause-count
returns-clause-count c =
    let old : PipeSet = record { role = c.self.inside.role; each = c.self.inside.each.items; turn = c.self.inside.turn } in
    let p = c.read.new.self in
    let place = c.in-Some.place in
    let there : place < length old.each = search rules in
    let here : (get_or old.each place p).watch.dlci ≡ c.args.dlci.number = search rules in
    let it : c.index_mut.result.now ≡ get_or old.each place p = c.index_mut.ensures.value ∙ get_or_default old.each place c.index_mut.result.now p there in
    let room = length c.args.room.now in
    let d = c.args.dlci.number in
    subst (λ (v : PipeSet). OfEachPast v (λ role past. c.read.result.count ≡ min (unread role d past) room)) c.self.view_is (reads_at old place p d c.read.result.count room there here (subst (λ (q : Pipe). c.read.result.count ≡ min (length q.lane.came) room) it c.read.ensures.count))

pub returns-clause-leads : goal.returns-clause-leads
returns-clause-leads c =
    let old : PipeSet = record { role = c.self.inside.role; each = c.self.inside.each.items; turn = c.self.inside.turn } in
    let p = c.read.new.self in
    let place = c.in-Some.place in
    let there : place < length old.each = search rules in
    let here : (get_or old.each place p).watch.dlci ≡ c.args.dlci.number = search rules in
    let it : c.index_mut.result.now ≡ get_or old.each place p = c.index_mut.ensures.value ∙ get_or_default old.each place c.index_mut.result.now p there in
    let new : PipeSet = record old { each = slice_set old.each place p } in
    let same : p.watch ≡ (get_or old.each place p).watch = c.read.ensures.same ∙ ap (λ (q : Pipe). q.watch) it in
    let octets = take c.read.result.count c.read.new.room in
    let leads = subst (λ (q : Pipe). Leads q p (Read q.watch.dlci octets)) it c.read.ensures.leads in
    let led = subst (λ (e : ℕ). Leads (get_or old.each place p) p (Read e octets)) here leads in
    subst (λ (v : PipeSet). AllLead v new (Read c.args.dlci.number octets)) c.self.view_is (one_read old new place p c.args.dlci.number octets there here led same refl)

pub returns-clause-over : goal.returns-clause-over
returns-clause-over c =
    let old : PipeSet = record { role = c.self.inside.role; each = c.self.inside.each.items; turn = c.self.inside.turn } in
    let p = c.read.new.self in
    let place = c.in-Some.place in
    let there : place < length old.each = search rules in
    let here : (get_or old.each place p).watch.dlci ≡ c.args.dlci.number = search rules in
    let it : c.index_mut.result.now ≡ get_or old.each place p = c.index_mut.ensures.value ∙ get_or_default old.each place c.index_mut.result.now p there in
    let new : PipeSet = record old { each = slice_set old.each place p } in
    let same : p.watch ≡ (get_or old.each place p).watch = c.read.ensures.same ∙ ap (λ (q : Pipe). q.watch) it in
    let at : get_or new.each place p ≡ p = get_or-set_same old.each place p p there in
    let d = ap (λ (q : Pipe). q.watch.dlci) at ∙ (ap (λ (w : Watch). w.dlci) same ∙ here) in
    over_at new place p c.args.dlci.number c.read.result.is_over (subst (λ n. place < n) (sym (length-set old.each place p)) there) d (subst (λ (q : Pipe). SaysOver q c.read.result.is_over) (sym at) c.read.ensures.over)
