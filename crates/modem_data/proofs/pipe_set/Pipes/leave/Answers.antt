-- Data of one leaves.
use Rattle.std.proofs.Common.{◌≡◌, get_or, slice_set, ap, subst, sym, ◌∙◌, refl, ◌+◌}
use Rattle.std.proofs.lemmas.List.{get_or_default}
use Rattle.modem_data.specs.Pipes.{Pipe, LeadsLeft, next_data}
use Rattle.modem_data.specs.PipeSets.{PipeSet, IsNext, IsNextFrame, LeavesInTurn}
use Rattle.modem_data.proofs.PipeSetCalls.{leaves}
use Rattle.modem_data.proofs.pipe_set.Pipes.leave.Goals as goal

pub returns : goal.returns
unfolding IsNextFrame
returns c =
    let old : PipeSet = record { role = c.self.inside.role; each = c.self.inside.each.items; turn = c.self.inside.turn } in
    let p = c.leave.new.self in
    let place = c.args.place in
    let next : IsNext old place = subst (λ (v : PipeSet). IsNext v place) (sym c.self.view_is) c.requires.next in
    let it : c.index_mut.result.now ≡ get_or old.each place p = c.index_mut.ensures.value ∙ get_or_default old.each place c.index_mut.result.now p next.there in
    let new : PipeSet = record { role = old.role; each = slice_set old.each place p; turn = place + 1 } in
    let same : p.watch ≡ (get_or old.each place p).watch = c.leave.ensures.same ∙ ap (λ (q : Pipe). q.watch) it in
    let leads = subst (λ (x : Pipe). LeadsLeft c.args.n1 x p (next_data c.args.n1 x)) it c.leave.ensures.left in
    subst (λ (v : PipeSet). (f : _) → IsNextFrame c.args.n1 v place f → LeavesInTurn c.args.n1 v new f) c.self.view_is (λ f is.
    subst (λ g. LeavesInTurn c.args.n1 old new g) (sym (is p)) (leaves c.args.n1 old new place p (next_data c.args.n1 (get_or old.each place p)) next leads refl same refl refl refl))
