use Rattle.std.proofs.Common.{◌≡◌, ◌+◌, List, [], ◌∷◌, ◌++◌, length, map, sym, ap, ◌∙◌, subst, append_assoc, arith}
use Rattle.std.specs.Prelude.{vec_items, slice_index_or}
use Rattle.std.proofs.lemmas.List.{length_push, map-append, length-map}
use Rattle.rtrb.specs.Ring.{sent}
use Rattle.std.specs.declared.vec.Vec.{Vec}
use Rattle.std.specs.declared.alloc.Global.{Global}
use Rattle.std.specs.Vec.Iter.{into_iter_items}
use mathlib.Core.Option.{some}
use lib.ListN.{get_elem?}
use Rattle.modem_desk.specs.declared.request.Urc.{Urc}
use Rattle.modem_desk.specs.Ends.{ListenerView}
use Rattle.ring_id.specs.Rings.{RingId}
use Rattle.modem_desk.specs.Settling.{HeardBy}
use Rattle.modem_desk.proofs.desk_places.ReturnedEnds.{comes, heard_more}
use Rattle.modem_desk.proofs.settling.gather_lines.Goals as goal

pub drain_listener-requires-clause-place : goal.drain_listener-requires-clause-place
drain_listener-requires-clause-place c =
    let i = c.loop-listener.invariant in
    let steps : into_iter_items c.loop-listener.listener-iterator ≡ c.in-Some.listener ∷ into_iter_items c.next.new.self = c.in-Some.ensures.steps.0 in
    let here : get_elem? c.args.listeners.items (length c.loop-listener.yielded) ≡ some c.in-Some.listener =
    comes c.loop-listener.yielded (into_iter_items c.next.new.self) c.args.listeners.items c.in-Some.listener (ap (λ (l : List ListenerView). c.loop-listener.yielded ++ l) (sym steps) ∙ i.came) in
    ap (λ (l : List RingId). get_elem? l c.in-Some.listener.subscription.place) i.rings ∙ c.requires.places (length c.loop-listener.yielded) c.in-Some.listener here

pub loop-listener-preserved : goal.loop-listener-preserved
loop-listener-preserved c =
    let i = c.loop-listener.invariant in
    let steps : into_iter_items c.loop-listener.listener-iterator ≡ c.in-Some.listener ∷ into_iter_items c.next.new.self = c.in-Some.ensures.steps.0 in
    let more = length_push c.loop-listener.yielded c.in-Some.listener in
    let said = ap (λ (l : List (List Urc)). slice_index_or l c.in-Some.listener.subscription.place []) i.said in
    record {
      can_next = tt;
      is_finite = tt;
      rings = c.drain_listener.ensures.rings.0 ∙ i.rings;
      said = c.drain_listener.ensures.rings.1 ∙ i.said;
      each = c.next_room-waiting.ensures.empty.1;
      count = let h = c.next_room-waiting.ensures.empty.0 in let n = i.count in omega arith;
      came = append_assoc c.loop-listener.yielded (c.in-Some.listener ∷ []) (into_iter_items c.next.new.self) ∙ ap (λ (l : List ListenerView). c.loop-listener.yielded ++ l) (sym steps) ∙ i.came;
      room = let h = c.put_away.ensures.room in let n = i.room in omega arith;
      long = ap (length {A = Vec Urc Global}) c.put_away.ensures.items ∙ length_push c.loop-listener.filled.items c.drain_listener.new.into ∙ ap (λ n. n + 1) i.long ∙ sym more;
      heard = subst (λ (l : List (List Urc)). HeardBy (map sent c.args.lines.items) (c.loop-listener.yielded ++ c.in-Some.listener ∷ []) l)
          (sym (ap (map (vec_items {X = Urc} {Z = Global})) c.put_away.ensures.items ∙ map-append (vec_items {X = Urc} {Z = Global}) c.loop-listener.filled.items (c.drain_listener.new.into ∷ [])))
          (heard_more (map sent c.args.lines.items) c.loop-listener.yielded (map vec_items c.loop-listener.filled.items) c.in-Some.listener c.drain_listener.new.into.items
          (length-map c.loop-listener.filled.items (vec_items {X = Urc} {Z = Global}) ∙ i.long) i.heard (c.drain_listener.ensures.lines ∙ said));
    }
