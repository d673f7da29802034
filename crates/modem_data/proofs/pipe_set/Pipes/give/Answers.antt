-- Octets are given for one.
use Rattle.std.proofs.Common.{rules, ◌≡◌, ◌<◌, length, get_or, slice_set, ap, subst, ◌∙◌, refl}
use Rattle.std.specs.Prelude.{ℕ, ◌-◌, min, take, false, true, Ok, IfOk, OnOk}
use Rattle.mux_station.specs.Opening.{is_open}
use Rattle.std.proofs.lemmas.List.{get_or_default}
use Rattle.modem_data.specs.Switching.{takes_given}
use Rattle.modem_data.specs.DataLanes.{most_to_go}
use Rattle.modem_data.specs.Passing.{Gave, carries, given, left, wire}
use Rattle.modem_data.specs.Pipes.{Pipe, Leads, IsShut, TakesNone}
use Rattle.modem_data.specs.PipeSets.{PipeSet, AllLead, HasPipe, OfEachPast}
use Rattle.modem_data.proofs.PipeSetCalls.{gave_by, gives_by, has_pipe, let_by, open_at, shut_at, takes_none_at}
use Rattle.modem_data.proofs.pipe_set.Pipes.give.Goals as goal

pub returns-clause-count : goal.returns-clause-count
returns-clause-count c =
    let old : PipeSet = record { role = c.self.inside.role; each = c.self.inside.each.items; turn = c.self.inside.turn } in
    let p = c.give.new.self in
    let place = c.in-Some.place in
    let there : place < length old.each = search rules in
    let here : (get_or old.each place p).watch.dlci ≡ c.args.dlci.number = search rules in
    let it : c.index_mut.result.now ≡ get_or old.each place p = c.index_mut.ensures.value ∙ get_or_default old.each place c.index_mut.result.now p there in
    let many = length c.args.octets.now in
    let d = c.args.dlci.number in
    subst (λ (v : PipeSet). IfOk c.give.result (λ count. OfEachPast v (λ role past. count ≡ min many (most_to_go - (length (given d past) - length (left d past)))))) c.self.view_is (gives_by old place p d many c.give.result there here (subst (λ (q : Pipe). IfOk c.give.result (λ count. count ≡ min many (most_to_go - length q.lane.to_go))) it c.give.ensures.count))

pub returns-clause-leads : goal.returns-clause-leads
returns-clause-leads c =
    let old : PipeSet = record { role = c.self.inside.role; each = c.self.inside.each.items; turn = c.self.inside.turn } in
    let p = c.give.new.self in
    let place = c.in-Some.place in
    let there : place < length old.each = search rules in
    let here : (get_or old.each place p).watch.dlci ≡ c.args.dlci.number = search rules in
    let it : c.index_mut.result.now ≡ get_or old.each place p = c.index_mut.ensures.value ∙ get_or_default old.each place c.index_mut.result.now p there in
    let new : PipeSet = record old { each = slice_set old.each place p } in
    let same : p.watch ≡ (get_or old.each place p).watch = c.give.ensures.same ∙ ap (λ (q : Pipe). q.watch) it in
    let leads = subst (λ (q : Pipe). IfOk c.give.result (λ count. Leads q p (Gave q.watch.dlci (take count c.args.octets.now)))) it c.give.ensures.leads in
    let led = subst (λ (e : ℕ). IfOk c.give.result (λ count. Leads (get_or old.each place p) p (Gave e (take count c.args.octets.now)))) here leads in
    subst (λ (v : PipeSet). IfOk c.give.result (λ count. AllLead v new (Gave c.args.dlci.number (take count c.args.octets.now)))) c.self.view_is (gave_by old new place p c.args.dlci.number c.args.octets.now c.give.result there here led same refl)

pub returns-clause-not_open : goal.returns-clause-not_open
returns-clause-not_open c =
    let old : PipeSet = record { role = c.self.inside.role; each = c.self.inside.each.items; turn = c.self.inside.turn } in
    let p = c.give.new.self in
    let place = c.in-Some.place in
    let there : place < length old.each = search rules in
    let here : (get_or old.each place p).watch.dlci ≡ c.args.dlci.number = search rules in
    let it : c.index_mut.result.now ≡ get_or old.each place p = c.index_mut.ensures.value ∙ get_or_default old.each place c.index_mut.result.now p there in
    λ e. subst (λ (v : PipeSet). OfEachPast v (λ role past. is_open role c.args.dlci.number (wire past) ≡ false)) c.self.view_is (shut_at old place p c.args.dlci.number there here (subst IsShut it (c.give.ensures.not_open e)))

pub returns-clause-takes_none : goal.returns-clause-takes_none
returns-clause-takes_none c =
    let old : PipeSet = record { role = c.self.inside.role; each = c.self.inside.each.items; turn = c.self.inside.turn } in
    let p = c.give.new.self in
    let place = c.in-Some.place in
    let there : place < length old.each = search rules in
    let here : (get_or old.each place p).watch.dlci ≡ c.args.dlci.number = search rules in
    let it : c.index_mut.result.now ≡ get_or old.each place p = c.index_mut.ensures.value ∙ get_or_default old.each place c.index_mut.result.now p there in
    λ e. subst (λ (v : PipeSet). OfEachPast v (λ role past. takes_given (carries role c.args.dlci.number past) ≡ false)) c.self.view_is (takes_none_at old place p c.args.dlci.number there here (subst TakesNone it (c.give.ensures.takes_none e)))

pub returns-clause-lets : goal.returns-clause-lets
returns-clause-lets c =
    let old : PipeSet = record { role = c.self.inside.role; each = c.self.inside.each.items; turn = c.self.inside.turn } in
    let p = c.give.new.self in
    let place = c.in-Some.place in
    let there : place < length old.each = search rules in
    let here : (get_or old.each place p).watch.dlci ≡ c.args.dlci.number = search rules in
    let it : c.index_mut.result.now ≡ get_or old.each place p = c.index_mut.ensures.value ∙ get_or_default old.each place c.index_mut.result.now p there in
    let is = subst (λ (q : Pipe). OnOk c.give.result ((q.watch.own.is_open ≡ true) × (takes_given q.lane.carries ≡ true))) it c.give.ensures.lets in
    subst (λ (v : PipeSet). OnOk c.give.result (OfEachPast v (λ role past. (is_open role c.args.dlci.number (wire past) ≡ true) × (takes_given (carries role c.args.dlci.number past) ≡ true)))) c.self.view_is (let_by old place p c.args.dlci.number c.give.result there here is)

pub returns-clause-named : goal.returns-clause-named
returns-clause-named c =
    let old : PipeSet = record { role = c.self.inside.role; each = c.self.inside.each.items; turn = c.self.inside.turn } in
    let p = c.give.new.self in
    let place = c.in-Some.place in
    let there : place < length old.each = search rules in
    let here : (get_or old.each place p).watch.dlci ≡ c.args.dlci.number = search rules in
    let has : HasPipe old c.args.dlci.number = has_pipe {A = ℕ} {X = ℕ} old place p c.args.dlci.number (Ok 0) there here in
    λ why. subst (λ (v : PipeSet). HasPipe v c.args.dlci.number) c.self.view_is has

pub returns-clause-open_there : goal.returns-clause-open_there
returns-clause-open_there c =
    let old : PipeSet = record { role = c.self.inside.role; each = c.self.inside.each.items; turn = c.self.inside.turn } in
    let p = c.give.new.self in
    let place = c.in-Some.place in
    let there : place < length old.each = search rules in
    let here : (get_or old.each place p).watch.dlci ≡ c.args.dlci.number = search rules in
    let it : c.index_mut.result.now ≡ get_or old.each place p = c.index_mut.ensures.value ∙ get_or_default old.each place c.index_mut.result.now p there in
    λ e. subst (λ (v : PipeSet). OfEachPast v (λ role past. is_open role c.args.dlci.number (wire past) ≡ true)) c.self.view_is (open_at old place p c.args.dlci.number there here (subst (λ (q : Pipe). q.watch.own.is_open ≡ true) it (c.give.ensures.open_there e)))
