use Rattle.std.proofs.Common.{rules, ◌≡◌, ◌∙◌, List, length, map, sym, ap, subst}
use Rattle.std.specs.Prelude.{vec_items}
use Rattle.std.proofs.lemmas.List.{length-map}
use lib.ListN.{get_elem?}
use Rattle.crossbeam_queue.specs.Passes.{view}
use Rattle.modem_desk.specs.declared.request.Outcome.{Outcome}
use Rattle.modem_desk.specs.declared.request.Urc.{Urc}
use Rattle.modem_desk.specs.declared.rule.View.{View}
use Rattle.ring_id.specs.Rings.{RingId}
use Rattle.modem_desk.specs.Rule.{driver, AllLeft}
use Rattle.modem_desk.specs.Settling.{known_of, HeldFor, HeardBy}
use Rattle.modem_desk.proofs.desk_places.ReturnedEnds.{all_left, books}
use Rattle.modem_desk.proofs.settling.gather.Goals as goal

pub gather_outcomes-untaken-requires-clause-places : goal.gather_outcomes-untaken-requires-clause-places
gather_outcomes-untaken-requires-clause-places g c i a at =
    let e = c.into_parts-queue.ensures in
    let here = c.requires.whole.0.0 i a at in
    (here.0 ∙ sym e.pass.1, ap (λ (l : List RingId). get_elem? l a.place.number) e.rings.0 ∙ here.1)

pub gather_lines-unheard-requires-clause-places : goal.gather_lines-unheard-requires-clause-places
gather_lines-unheard-requires-clause-places g c i a at =
    ap (λ (l : List RingId). get_elem? l a.subscription.place) c.into_parts-queue.ensures.lines.0 ∙ (c.requires.whole.1 i a at).1

pub drain-requires-clause-pass : goal.drain-requires-clause-pass
drain-requires-clause-pass g c =
    let e = c.into_parts-queue.ensures.pass.2 in
    let left = c.gather_outcomes-untaken.ensures.pass.1 in
    let knows : view c.gather_outcomes-untaken.new.pass ≡ driver (length c.args.driver.desk.rings) c.args.driver.taken (map known_of c.args.callers.items) =
    left ∙ ap (λ (v : View). driver v.given v.taken (map known_of c.args.callers.items)) e in (
      search rules,
      ap (λ (v : View). v.drives) left,
      ap (λ (v : View). v.counted) left,
      subst AllLeft (sym knows) (all_left c.args.driver.desk (length c.args.driver.desk.rings) c.args.callers.items c.args.driver.taken c.requires.whole.0),
    )

pub returns : goal.returns
returns g c =
    let e = c.into_parts-queue.ensures in
    let left = c.gather_outcomes-untaken.ensures.pass.1 in
    let knows : view c.gather_outcomes-untaken.new.pass ≡ driver (length c.args.driver.desk.rings) c.args.driver.taken (map known_of c.args.callers.items) =
    left ∙ ap (λ (v : View). driver v.given v.taken (map known_of c.args.callers.items)) e.pass.2 in
    let held = c.gather_outcomes-untaken.ensures.outcomes in
    let heard = c.gather_lines-unheard.ensures in
    books c.args.driver c.args.callers.items c.args.listeners.items c.drain.new.left.items (map vec_items c.gather_outcomes-untaken.result.items) (map vec_items c.gather_lines-unheard.result.items)
    (view c.gather_outcomes-untaken.new.pass) (ap (λ (v : View). v.taken) knows) (ap (λ (v : View). v.known) knows) (ap (λ (v : View). v.given) knows)
    c.drain.ensures.order c.drain.ensures.of_callers c.gather_outcomes-untaken.ensures.numbered
    (length-map c.gather_outcomes-untaken.result.items vec_items ∙ held.0, subst (λ (t : List (List Outcome)). HeldFor t c.args.callers.items (map vec_items c.gather_outcomes-untaken.result.items)) e.rings.1 held.1)
    (length-map c.gather_lines-unheard.result.items vec_items ∙ heard.0, subst (λ (t : List (List Urc)). HeardBy t c.args.listeners.items (map vec_items c.gather_lines-unheard.result.items)) e.lines.1 heard.1)
