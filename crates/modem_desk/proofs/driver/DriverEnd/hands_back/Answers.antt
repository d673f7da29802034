-- The ring was looked at, and nothing was pushed.
use Rattle.std.proofs.Common.{ℕ, ◌≡◌, ap, ◌∙◌, ◌<◌, List, length, subst, arith}
use mathlib.Core.Option.{some}
use lib.ListN.{get_elem?}
use Rattle.modem_desk.specs.Ends.{Changes, DriverView, RunsOut, RisesByOne, Hears, EachOnce}
use Rattle.modem_desk.proofs.desk_places.DriverRings.{same_rings, rings_looked_at, sent_same, free_changes}
use Rattle.modem_desk.proofs.desk_places.KindPlaces.{contains_at, or_at, one_place, changes_where}
use Rattle.modem_desk.proofs.driver.DriverEnd.hands_back.Goals as goal

pub returns-clause-same : goal.returns-clause-same
returns-clause-same c =
    let rings = same_rings c.self.inside.lines.items c.in-Some.place c.index_mut.result.now c.is_full.new.self c.index_mut.ensures.value c.is_full.ensures.looked.0 in
    let announced = sent_same c.self.inside.lines.items c.in-Some.place c.index_mut.result.now c.is_full.new.self c.index_mut.ensures.value c.is_full.ensures.looked.1 in
    rings_looked_at _ _ _ _ _ _ c.self.view_is rings announced

pub returns-then-not-is_full-clause-same : goal.returns-then-not-is_full-clause-same
returns-then-not-is_full-clause-same c =
    let rings = same_rings c.self.inside.lines.items c.in-Some.place c.index_mut.result.now c.is_full.new.self c.index_mut.ensures.value c.is_full.ensures.looked.0 in
    let announced = sent_same c.self.inside.lines.items c.in-Some.place c.index_mut.result.now c.is_full.new.self c.index_mut.ensures.value c.is_full.ensures.looked.1 in
    rings_looked_at _ _ _ _ _ _ c.self.view_is rings announced

pub index_mut-requires : goal.index_mut-requires
index_mut-requires c =
    let lt = (or_at c.deref.result.now c.in-Some.place c.args.kind c.args.kind c.in-Some.ensures).0 in
    let e = c.deref.ensures.len in let same = c.self.invariant.4 in omega arith

pub count_one-requires : goal.count_one-requires
count_one-requires c =
    let lt = (or_at c.deref.result.now c.in-Some.place c.args.kind c.args.kind c.in-Some.ensures).0 in
    let e = c.deref.ensures.len in let same = c.self.invariant.8 in omega arith

pub returns-clause-listened : goal.returns-clause-listened
returns-clause-listened c _ =
    let kinds : c.deref.result.now ≡ c.args.self.now.desk.kinds = c.deref.ensures.value ∙ ap (λ (v : DriverView). v.desk.kinds) c.self.view_is in
    let here : get_elem? c.args.self.now.desk.kinds c.in-Some.place ≡ some c.args.kind = subst (λ ks. get_elem? ks c.in-Some.place ≡ some c.args.kind) kinds c.in-Some.ensures in
    contains_at c.args.self.now.desk.kinds c.in-Some.place c.args.kind here

pub returns-clause-full : goal.returns-clause-full
returns-clause-full c _ =
    let kinds : c.deref.result.now ≡ c.args.self.now.desk.kinds = c.deref.ensures.value ∙ ap (λ (v : DriverView). v.desk.kinds) c.self.view_is in
    let here : get_elem? c.args.self.now.desk.kinds c.in-Some.place ≡ some c.args.kind = subst (λ ks. get_elem? ks c.in-Some.place ≡ some c.args.kind) kinds c.in-Some.ensures in
    let once = subst EachOnce (ap (λ (v : DriverView). v.desk.kinds) c.self.view_is) c.self.invariant.5 in
    let lt : c.in-Some.place < length c.self.inside.lines.items = (let k = (or_at c.deref.result.now c.in-Some.place c.args.kind c.args.kind c.in-Some.ensures).0 in
    let e = c.deref.ensures.len in let same = c.self.invariant.4 in omega arith) in
    free_changes c.self.inside.lines.items c.in-Some.place c.index_mut.result.now c.is_full.new.self (Hears c.args.self.now.desk.kinds c.args.kind) RunsOut c.args.self.now.free_lines lt c.index_mut.ensures.value
    (ap (λ (v : DriverView). v.free_lines) c.self.view_is) (λ k at. one_place c.args.self.now.desk.kinds k c.in-Some.place c.args.kind once at here) here (c.is_full.ensures.value.0 c.if-not-is_full.false)

pub returns-clause-back_counted : goal.returns-clause-back_counted
returns-clause-back_counted c _ =
    let kinds : c.deref.result.now ≡ c.args.self.now.desk.kinds = c.deref.ensures.value ∙ ap (λ (v : DriverView). v.desk.kinds) c.self.view_is in
    let here : get_elem? c.args.self.now.desk.kinds c.in-Some.place ≡ some c.args.kind = subst (λ ks. get_elem? ks c.in-Some.place ≡ some c.args.kind) kinds c.in-Some.ensures in
    let once = subst EachOnce (ap (λ (v : DriverView). v.desk.kinds) c.self.view_is) c.self.invariant.5 in
    subst (λ (l : List ℕ). Changes (Hears c.args.self.now.desk.kinds c.args.kind) RisesByOne l c.count_one.new.counts.items) (ap (λ (v : DriverView). v.announced_back) c.self.view_is)
    (changes_where (Hears c.args.self.now.desk.kinds c.args.kind) RisesByOne c.in-Some.place c.self.inside.lines_back.items c.count_one.new.counts.items
    (λ k at. one_place c.args.self.now.desk.kinds k c.in-Some.place c.args.kind once at here) here c.count_one.ensures.changes)
