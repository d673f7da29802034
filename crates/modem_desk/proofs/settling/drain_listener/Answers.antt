use Rattle.std.proofs.Common.{sym, ap, ◌∙◌, subst, ◌<◌, map, List, ◌++◌, length, ◌≡◌, arith}
use mathlib.Core.Option.{some}
use lib.ListN.{get_elem?}
use Rattle.modem_desk.specs.declared.request.Urc.{Urc}
use Rattle.modem_desk.proofs.desk_places.DriverRings.{pair_at, place_below, ring_kept, sent_same, sent_at}
use Rattle.ring_id.specs.Rings.{RingId, ring_of_producer, ring_of_consumer}
use Rattle.modem_desk.proofs.settling.drain_listener.Goals as goal

pub index_mut-ring-requires : goal.index_mut-ring-requires
index_mut-ring-requires c =
    let n = c.into_parts-theirs.ensures.place in
    let l : c.args.listener.subscription.place < length c.args.lines.now.items = place_below c.args.lines.now.items c.args.listener.subscription.place _ c.requires.place in
    let h : c.into_parts-theirs.result.1 < length c.args.lines.now.items = subst (λ k. k < length c.args.lines.now.items) (sym n) l in
    omega arith

pub empty_ring-requires-clause-ring : goal.empty_ring-requires-clause-ring
empty_ring-requires-clause-ring c =
    let e = c.into_parts-theirs.ensures in
    let at : get_elem? (map ring_of_producer c.args.lines.now.items) c.into_parts-theirs.result.1 ≡ some (ring_of_consumer c.into_parts-theirs.result.0) =
    ap (λ k. get_elem? (map ring_of_producer c.args.lines.now.items) k) e.place ∙ c.requires.place ∙ ap (λ (r : RingId). some r) (sym e.ring.0) in
    pair_at c.args.lines.now.items c.into_parts-theirs.result.1 c.into_parts-theirs.result.0 c.index_mut-ring.result.now at c.index_mut-ring.ensures.value

pub returns-clause-rings : goal.returns-clause-rings
returns-clause-rings c = (
  ring_kept c.args.lines.now.items c.into_parts-theirs.result.1 c.index_mut-ring.result.now c.empty_ring.new.producer c.index_mut-ring.ensures.value c.empty_ring.ensures.ring.0,
  sent_same c.args.lines.now.items c.into_parts-theirs.result.1 c.index_mut-ring.result.now c.empty_ring.new.producer c.index_mut-ring.ensures.value c.empty_ring.ensures.ring.1,
)

pub returns-clause-lines : goal.returns-clause-lines
returns-clause-lines c =
    let e = c.into_parts-theirs.ensures in
    let l : c.args.listener.subscription.place < length c.args.lines.now.items = place_below c.args.lines.now.items c.args.listener.subscription.place _ c.requires.place in
    let at = c.index_mut-ring.ensures.value in
    ap (λ (k : List Urc). k ++ c.empty_ring.new.into.items) (sym e.ring.1) ∙ c.empty_ring.ensures.all ∙ sent_at c.args.lines.now.items c.args.listener.subscription.place c.index_mut-ring.result.now l (rw e.place at at)
