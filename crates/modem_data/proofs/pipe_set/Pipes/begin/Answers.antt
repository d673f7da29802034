-- A lane of one begins.
use Rattle.std.proofs.Common.{rules, ◌≡◌, ◌<◌, length, get_or, slice_set, ap, subst, ◌∙◌, refl}
use Rattle.std.specs.Prelude.{ℕ, ◌≢◌, true, false, OnOk}
use Rattle.std.proofs.lemmas.List.{get_or_default}
use Rattle.modem_data.specs.Switching.{Idle, is_idle}
use Rattle.modem_data.specs.Passing.{Began, carries, data_came, data_read}
use Rattle.modem_data.specs.Pipes.{Pipe, Leads, HasUnread, SaysLane}
use Rattle.modem_data.specs.PipeSets.{PipeSet, AllLead, HasPipe, OfEachPast}
use Rattle.modem_data.proofs.PipeSetCalls.{began_by, has_pipe, under_way_at, unread_at}
use Rattle.modem_data.proofs.pipe_set.Pipes.begin.Goals as goal

pub returns-clause-began : goal.returns-clause-began
returns-clause-began c =
    let old : PipeSet = record { role = c.self.inside.role; each = c.self.inside.each.items; turn = c.self.inside.turn } in
    let p = c.begin.new.self in
    let place = c.in-Some.place in
    let there : place < length old.each = search rules in
    let here : (get_or old.each place p).watch.dlci ≡ c.args.dlci.number = search rules in
    let it : c.index_mut.result.now ≡ get_or old.each place p = c.index_mut.ensures.value ∙ get_or_default old.each place c.index_mut.result.now p there in
    let new : PipeSet = record old { each = slice_set old.each place p } in
    let same : p.watch ≡ (get_or old.each place p).watch = c.begin.ensures.same ∙ ap (λ (q : Pipe). q.watch) it in
    let leads = subst (λ (q : Pipe). OnOk c.begin.result (Leads q p (Began q.watch.dlci c.args.how c.args.until))) it c.begin.ensures.leads in
    let led = subst (λ (e : ℕ). OnOk c.begin.result (Leads (get_or old.each place p) p (Began e c.args.how c.args.until))) here leads in
    subst (λ (v : PipeSet). OnOk c.begin.result (AllLead v new (Began c.args.dlci.number c.args.how c.args.until))) c.self.view_is (began_by old new place p c.args.dlci.number c.args.how c.args.until c.begin.result there here led same refl)

pub returns-clause-has : goal.returns-clause-has
returns-clause-has c =
    let old : PipeSet = record { role = c.self.inside.role; each = c.self.inside.each.items; turn = c.self.inside.turn } in
    let p = c.begin.new.self in
    let place = c.in-Some.place in
    let there : place < length old.each = search rules in
    let here : (get_or old.each place p).watch.dlci ≡ c.args.dlci.number = search rules in
    subst (λ (v : PipeSet). OnOk c.begin.result (HasPipe v c.args.dlci.number)) c.self.view_is (has_pipe old place p c.args.dlci.number c.begin.result there here)

pub returns-clause-under_way : goal.returns-clause-under_way
returns-clause-under_way c =
    let old : PipeSet = record { role = c.self.inside.role; each = c.self.inside.each.items; turn = c.self.inside.turn } in
    let p = c.begin.new.self in
    let place = c.in-Some.place in
    let there : place < length old.each = search rules in
    let here : (get_or old.each place p).watch.dlci ≡ c.args.dlci.number = search rules in
    let it : c.index_mut.result.now ≡ get_or old.each place p = c.index_mut.ensures.value ∙ get_or_default old.each place c.index_mut.result.now p there in
    λ e. subst (λ (v : PipeSet). OfEachPast v (λ role past. is_idle (carries role c.args.dlci.number past) ≡ false)) c.self.view_is (under_way_at old place p c.args.dlci.number there here (subst (λ (q : Pipe). SaysLane q true) it (c.begin.ensures.under_way e)))

pub returns-clause-unread : goal.returns-clause-unread
returns-clause-unread c =
    let old : PipeSet = record { role = c.self.inside.role; each = c.self.inside.each.items; turn = c.self.inside.turn } in
    let p = c.begin.new.self in
    let place = c.in-Some.place in
    let there : place < length old.each = search rules in
    let here : (get_or old.each place p).watch.dlci ≡ c.args.dlci.number = search rules in
    let it : c.index_mut.result.now ≡ get_or old.each place p = c.index_mut.ensures.value ∙ get_or_default old.each place c.index_mut.result.now p there in
    λ e. subst (λ (v : PipeSet). OfEachPast v (λ role past. (carries role c.args.dlci.number past ≡ Idle) × (data_read c.args.dlci.number past ≢ data_came role c.args.dlci.number past))) c.self.view_is (unread_at old place p c.args.dlci.number there here (subst HasUnread it (c.begin.ensures.unread e)))
