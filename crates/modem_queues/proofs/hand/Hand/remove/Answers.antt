-- Those behind it move up, or the first leaves its place.
use Rattle.std.proofs.Common.{◌<◌, ◌+◌, ◌∙◌, List, length, sym, subst, ap, arith, refl}
use Rattle.std.specs.Prelude.{drop, remove}
use Rattle.std.specs.Vec.{with_item}
use Rattle.std.proofs.lemmas.List.{length-drop}
use Rattle.modem_desk.specs.declared.request.Request.{Request}
use Rattle.modem_queues.proofs.lists.CommandPlaces.{kept_out, removed_behind, first_left}
use Rattle.modem_queues.proofs.hand.Hand.remove.Goals as goal

pub invariant_of-self : goal.invariant_of-self
invariant_of-self c =
    let k = c.self.inside in
    let inside : c.args.place < length (drop k.gone k.requests.items) = subst (λ (qs : List Request). c.args.place < length qs) (sym c.self.view_is) c.requires in
    let behind = length-drop k.gone k.requests.items in
    let counted = k.requests.ok.0 in
    let inv = c.self.invariant in
    let few = inv.few in
    let all = inv.all in
    let room = inv.room in
    let fewer = c.remove.ensures.len in
    let same = c.remove.ensures.capacity in
    kept_out k.requests c.remove.new.self k.gone k.gone k.starts c.move_up.new.starts k.may_stop c.args.place inv (omega (arith, inside, behind, counted, fewer)) (omega (arith, few, fewer)) (omega (arith, all, fewer)) (omega (arith, room, same)) inside
    (ap (drop k.gone) c.remove.ensures.items ∙ removed_behind k.gone c.args.place (k.gone + c.args.place) k.requests.items refl) c.move_up.ensures

pub returns-then-place-len-clause-items : goal.returns-then-place-len-clause-items
returns-then-place-len-clause-items c =
    let k = c.self.inside in
    rw (← c.self.view_is) (ap (drop k.gone) c.remove.ensures.items ∙ removed_behind k.gone c.args.place (k.gone + c.args.place) k.requests.items refl)

pub invariant_of-self-2 : goal.invariant_of-self-2
invariant_of-self-2 c =
    let k = c.self.inside in
    let new = with_item c.bring_first.new.requests k.gone c.replace.new.dest in
    let inside : c.args.place < length (drop k.gone k.requests.items) = subst (λ (qs : List Request). c.args.place < length qs) (sym c.self.view_is) c.requires in
    let behind = length-drop k.gone k.requests.items in
    let counted = k.requests.ok.0 in
    let counted_now = c.bring_first.new.requests.ok.0 in
    let inv = c.self.invariant in
    let few = inv.few in
    let all = inv.all in
    let room = inv.room in
    let same = c.bring_first.ensures.len in
    let kept = c.bring_first.ensures.room in
    let between = c.bring_first.new.requests.items in
    kept_out k.requests new k.gone (k.gone + 1) k.starts c.move_up.new.starts k.may_stop c.args.place inv (omega (arith, inside, behind, counted, same)) (omega (arith, few, same)) (omega (arith, all, same)) (omega (arith, room, kept)) inside
    (first_left k.gone (k.gone + 1) c.replace.new.dest between refl (omega (arith, inside, behind, counted, counted_now, same)) ∙ ap (λ (qs : List Request). remove qs 0) (c.bring_first.ensures.front c.replace.new.dest)) c.move_up.ensures

pub returns-clause-items : goal.returns-clause-items
returns-clause-items c =
    let k = c.self.inside in
    let inside : c.args.place < length (drop k.gone k.requests.items) = subst (λ (qs : List Request). c.args.place < length qs) (sym c.self.view_is) c.requires in
    let behind = length-drop k.gone k.requests.items in
    let counted = k.requests.ok.0 in
    let counted_now = c.bring_first.new.requests.ok.0 in
    let same = c.bring_first.ensures.len in
    let between = c.bring_first.new.requests.items in
    rw (← c.self.view_is) (first_left k.gone (k.gone + 1) c.replace.new.dest between refl (omega (arith, inside, behind, counted, counted_now, same)) ∙ ap (λ (qs : List Request). remove qs 0) (c.bring_first.ensures.front c.replace.new.dest))
