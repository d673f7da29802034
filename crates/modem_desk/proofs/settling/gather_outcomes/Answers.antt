use Rattle.std.proofs.Common.{rules, ◌≡◌, ◌+◌, List, [], ◌∷◌, ◌++◌, length, map, sym, ap, ◌∙◌, subst, append_assoc, arith}
use Rattle.std.specs.Prelude.{vec_items, slice_index_or}
use Rattle.std.proofs.lemmas.List.{length_push, map-append, length-map}
use Rattle.rtrb.specs.Ring.{sent}
use Rattle.crossbeam_queue.specs.Passes.{view}
use Rattle.std.specs.declared.vec.Vec.{Vec}
use Rattle.std.specs.declared.alloc.Global.{Global}
use Rattle.std.specs.Vec.Iter.{into_iter_items}
use mathlib.Core.Option.{some}
use lib.ListN.{get_elem?}
use Rattle.modem_desk.specs.declared.request.Outcome.{Outcome}
use Rattle.modem_desk.specs.declared.rule.Known.{Known}
use Rattle.modem_desk.specs.declared.rule.View.{View}
use Rattle.modem_desk.specs.Ends.{CallerView, IsNumbered}
use Rattle.ring_id.specs.Rings.{RingId}
use Rattle.modem_desk.specs.Rule.{driver}
use Rattle.modem_desk.specs.Settling.{known_of, HeldFor}
use Rattle.modem_desk.proofs.desk_places.ReturnedEnds.{comes, held_more, each_more}
use Rattle.modem_desk.proofs.settling.gather_outcomes.Goals as goal

pub leave-requires-clause-place : goal.leave-requires-clause-place
leave-requires-clause-place c =
    let i = c.loop-caller.invariant in
    let steps : into_iter_items c.loop-caller.caller-iterator ≡ c.in-Some.caller ∷ into_iter_items c.next.new.self = c.in-Some.ensures.steps.0 in
    let here : get_elem? c.args.callers.items (length c.loop-caller.yielded) ≡ some c.in-Some.caller =
    comes c.loop-caller.yielded (into_iter_items c.next.new.self) c.args.callers.items c.in-Some.caller (ap (λ (l : List CallerView). c.loop-caller.yielded ++ l) (sym steps) ∙ i.came) in
    let at = c.requires.places (length c.loop-caller.yielded) c.in-Some.caller here in
    (at.0 ∙ c.requires.pass.0.0 ∙ sym i.of_queue.0, ap (λ (l : List RingId). get_elem? l c.in-Some.caller.place.number) i.rings ∙ at.1)

pub loop-caller-preserved : goal.loop-caller-preserved
loop-caller-preserved c =
    let i = c.loop-caller.invariant in
    let steps : into_iter_items c.loop-caller.caller-iterator ≡ c.in-Some.caller ∷ into_iter_items c.next.new.self = c.in-Some.ensures.steps.0 in
    let more = length_push c.loop-caller.yielded c.in-Some.caller in
    let said = ap (λ (l : List (List Outcome)). slice_index_or l c.in-Some.caller.place.number []) i.said in
    record {
      can_next = tt;
      is_finite = tt;
      of_queue = search rules;
      knows = c.leave.ensures.pass.1
          ∙ ap (λ (v : View). driver v.given v.taken (v.known ++ known_of c.in-Some.caller ∷ [])) i.knows
          ∙ ap (λ (l : List Known). driver (view c.args.pass.now).given (view c.args.pass.now).taken l) (sym (map-append known_of c.loop-caller.yielded (c.in-Some.caller ∷ [])));
      rings = c.leave.ensures.rings.0 ∙ i.rings;
      said = c.leave.ensures.rings.1 ∙ i.said;
      each = c.next_room-waiting.ensures.empty.1;
      count = let h = c.next_room-waiting.ensures.empty.0 in let n = i.count in omega arith;
      came = append_assoc c.loop-caller.yielded (c.in-Some.caller ∷ []) (into_iter_items c.next.new.self) ∙ ap (λ (l : List CallerView). c.loop-caller.yielded ++ l) (sym steps) ∙ i.came;
      room = let h = c.put_away.ensures.room in let n = i.room in omega arith;
      long = ap (length {A = Vec Outcome Global}) c.put_away.ensures.items ∙ length_push c.loop-caller.filled.items c.leave.new.into ∙ ap (λ n. n + 1) i.long ∙ sym more;
      held = subst (λ (l : List (List Outcome)). HeldFor (map sent c.args.rings.items) (c.loop-caller.yielded ++ c.in-Some.caller ∷ []) l)
          (sym (ap (map (vec_items {X = Outcome} {Z = Global})) c.put_away.ensures.items ∙ map-append (vec_items {X = Outcome} {Z = Global}) c.loop-caller.filled.items (c.leave.new.into ∷ [])))
          (held_more (map sent c.args.rings.items) c.loop-caller.yielded (map vec_items c.loop-caller.filled.items) c.in-Some.caller c.leave.new.into.items
          (length-map c.loop-caller.filled.items (vec_items {X = Outcome} {Z = Global}) ∙ i.long) i.held (c.leave.ensures.outcomes ∙ said));
      numbered = each_more (λ _ a. IsNumbered a.place.first a.submitted) c.loop-caller.yielded c.in-Some.caller i.numbered c.leave.ensures.numbered;
    }
