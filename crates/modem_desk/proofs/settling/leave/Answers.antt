use Rattle.std.proofs.Common.{rules, sym, ap, ◌∙◌, subst, ◌<◌, map, List, ◌++◌, length, ◌≡◌, arith}
use mathlib.Core.Option.{some}
use lib.ListN.{get_elem?}
use Rattle.modem_desk.specs.declared.request.Outcome.{Outcome}
use Rattle.modem_desk.proofs.queue_rule.RuleSteps.{leaves}
use Rattle.modem_desk.proofs.desk_places.DriverRings.{pair_at, place_below, ring_kept, sent_same, sent_at}
use Rattle.ring_id.specs.Rings.{RingId, ring_of_producer, ring_of_consumer}
use Rattle.modem_desk.proofs.settling.leave.Goals as goal

pub absorb-requires-clause-rule : goal.absorb-requires-clause-rule
absorb-requires-clause-rule c = leaves _ _ _ _ (search rules) (search rules) (search rules)

pub index_mut-ring-requires : goal.index_mut-ring-requires
index_mut-ring-requires c =
    let n = c.into_parts-theirs.ensures.number in
    let l : c.args.caller.place.number < length c.args.rings.now.items = place_below c.args.rings.now.items c.args.caller.place.number _ c.requires.place.1 in
    let h : c.into_parts-theirs.result.2 < length c.args.rings.now.items = subst (λ k. k < length c.args.rings.now.items) (sym n) l in
    omega arith

pub empty_ring-requires-clause-ring : goal.empty_ring-requires-clause-ring
empty_ring-requires-clause-ring c =
    let e = c.into_parts-theirs.ensures in
    let at : get_elem? (map ring_of_producer c.args.rings.now.items) c.into_parts-theirs.result.2 ≡ some (ring_of_consumer c.into_parts-theirs.result.1) =
    ap (λ k. get_elem? (map ring_of_producer c.args.rings.now.items) k) e.number ∙ c.requires.place.1 ∙ ap (λ (r : RingId). some r) (sym e.ring.0) in
    pair_at c.args.rings.now.items c.into_parts-theirs.result.2 c.into_parts-theirs.result.1 c.index_mut-ring.result.now at c.index_mut-ring.ensures.value

pub returns-clause-rings : goal.returns-clause-rings
returns-clause-rings c = (
  ring_kept c.args.rings.now.items c.into_parts-theirs.result.2 c.index_mut-ring.result.now c.empty_ring.new.producer c.index_mut-ring.ensures.value c.empty_ring.ensures.ring.0,
  sent_same c.args.rings.now.items c.into_parts-theirs.result.2 c.index_mut-ring.result.now c.empty_ring.new.producer c.index_mut-ring.ensures.value c.empty_ring.ensures.ring.1,
)

pub returns-clause-outcomes : goal.returns-clause-outcomes
returns-clause-outcomes c =
    let e = c.into_parts-theirs.ensures in
    let l : c.args.caller.place.number < length c.args.rings.now.items = place_below c.args.rings.now.items c.args.caller.place.number _ c.requires.place.1 in
    let at = c.index_mut-ring.ensures.value in
    ap (λ (k : List Outcome). k ++ c.empty_ring.new.into.items) (sym e.ring.1) ∙ c.empty_ring.ensures.all ∙ sent_at c.args.rings.now.items c.args.caller.place.number c.index_mut-ring.result.now l (rw e.number at at)
