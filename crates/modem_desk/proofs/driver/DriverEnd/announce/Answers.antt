use Rattle.std.proofs.Common.{rules, ℕ, ◌≡◌, sym, ap, ◌∙◌, ◌<◌, List, length, get_or, subst, arith}
use mathlib.Core.Option.{some}
use lib.ListN.{get_elem?}
use Rattle.std.specs.Prelude.{Contains}
use Rattle.at_text.specs.declared.unsolicited.UrcKind.{UrcKind}
use Rattle.modem_desk.specs.Ends.{Changes, DriverView, FallsByOne, RunsOut, RisesByOne, Hears, EachOnce}
use Rattle.modem_desk.proofs.desk_places.DriverRings.{same_rings, rings_announced, sent_appends, sent_same, free_at, free_changes}
use Rattle.modem_desk.proofs.desk_places.KindPlaces.{contains_at, or_at, one_place, announces, changes_where, none_changes}
use Rattle.modem_desk.proofs.driver.DriverEnd.announce.Goals as goal

pub returns-clause-same : goal.returns-clause-same
returns-clause-same c = rings_announced _ _ _ _ _ _ c.self.view_is (same_rings c.self.inside.lines.items c.in-Some.place c.index_mut-ring.result.now c.push.new.self c.index_mut-ring.ensures.value c.push.ensures.ring)

pub returns-in_default-push-clause-same : goal.returns-in_default-push-clause-same
returns-in_default-push-clause-same c = rings_announced _ _ _ _ _ _ c.self.view_is (same_rings c.self.inside.lines.items c.in-Some.place c.index_mut-ring.result.now c.push.new.self c.index_mut-ring.ensures.value c.push.ensures.ring)

pub index_mut-ring-requires : goal.index_mut-ring-requires
index_mut-ring-requires c =
    let lt = (or_at c.deref.result.now c.in-Some.place c.args.line.kind c.args.line.kind c.in-Some.ensures).0 in
    let e = c.deref.ensures.len in let same = c.self.invariant.4 in omega arith

pub returns-in_default-push-clause-announced : goal.returns-in_default-push-clause-announced
returns-in_default-push-clause-announced c =
    let kinds : c.deref.result.now ≡ c.args.self.now.desk.kinds = c.deref.ensures.value ∙ ap (λ (v : DriverView). v.desk.kinds) c.self.view_is in
    let here : get_elem? c.args.self.now.desk.kinds c.in-Some.place ≡ some c.args.line.kind = subst (λ (ks : List UrcKind). get_elem? ks c.in-Some.place ≡ some c.args.line.kind) kinds c.in-Some.ensures in
    let lt : c.in-Some.place < length c.self.inside.lines.items = (let k = (or_at c.deref.result.now c.in-Some.place c.args.line.kind c.args.line.kind c.in-Some.ensures).0 in
    let e = c.deref.ensures.len in let same = c.self.invariant.4 in omega arith) in
    announces c.args.self.now.desk.kinds c.in-Some.place c.args.line c.args.self.now.announced _ (subst EachOnce (ap (λ (v : DriverView). v.desk.kinds) c.self.view_is) c.self.invariant.5) here
    (sent_appends c.self.inside.lines.items c.in-Some.place c.index_mut-ring.result.now c.push.new.self c.args.line c.args.self.now.announced lt c.index_mut-ring.ensures.value c.in_default-push.ensures.ok.0
    (ap (λ (v : DriverView). v.announced) c.self.view_is))

pub returns-clause-back : goal.returns-clause-back
returns-clause-back c =
    (search rules, sent_same c.self.inside.lines.items c.in-Some.place c.index_mut-ring.result.now c.push.new.self c.index_mut-ring.ensures.value c.in-Err.ensures.full.1 ∙ ap (λ (v : DriverView). v.announced) c.self.view_is)

pub returns-in_default-push-clause-free : goal.returns-in_default-push-clause-free
returns-in_default-push-clause-free c =
    let kinds : c.deref.result.now ≡ c.args.self.now.desk.kinds = c.deref.ensures.value ∙ ap (λ (v : DriverView). v.desk.kinds) c.self.view_is in
    let here : get_elem? c.args.self.now.desk.kinds c.in-Some.place ≡ some c.args.line.kind = subst (λ (ks : List UrcKind). get_elem? ks c.in-Some.place ≡ some c.args.line.kind) kinds c.in-Some.ensures in
    let once = subst EachOnce (ap (λ (v : DriverView). v.desk.kinds) c.self.view_is) c.self.invariant.5 in
    let lt : c.in-Some.place < length c.self.inside.lines.items = (let k = (or_at c.deref.result.now c.in-Some.place c.args.line.kind c.args.line.kind c.in-Some.ensures).0 in
    let e = c.deref.ensures.len in let same = c.self.invariant.4 in omega arith) in
    free_changes c.self.inside.lines.items c.in-Some.place c.index_mut-ring.result.now c.push.new.self (Hears c.args.self.now.desk.kinds c.args.line.kind) FallsByOne c.args.self.now.free_lines lt c.index_mut-ring.ensures.value
    (ap (λ (v : DriverView). v.free_lines) c.self.view_is) (λ k at. one_place c.args.self.now.desk.kinds k c.in-Some.place c.args.line.kind once at here) here c.in_default-push.ensures.ok.1

pub returns-clause-full : goal.returns-clause-full
returns-clause-full c =
    let kinds : c.deref.result.now ≡ c.args.self.now.desk.kinds = c.deref.ensures.value ∙ ap (λ (v : DriverView). v.desk.kinds) c.self.view_is in
    let here : get_elem? c.args.self.now.desk.kinds c.in-Some.place ≡ some c.args.line.kind = subst (λ (ks : List UrcKind). get_elem? ks c.in-Some.place ≡ some c.args.line.kind) kinds c.in-Some.ensures in
    let once = subst EachOnce (ap (λ (v : DriverView). v.desk.kinds) c.self.view_is) c.self.invariant.5 in
    let lt : c.in-Some.place < length c.self.inside.lines.items = (let k = (or_at c.deref.result.now c.in-Some.place c.args.line.kind c.args.line.kind c.in-Some.ensures).0 in
    let e = c.deref.ensures.len in let same = c.self.invariant.4 in omega arith) in
    free_changes c.self.inside.lines.items c.in-Some.place c.index_mut-ring.result.now c.push.new.self (Hears c.args.self.now.desk.kinds c.args.line.kind) RunsOut c.args.self.now.free_lines lt c.index_mut-ring.ensures.value
    (ap (λ (v : DriverView). v.free_lines) c.self.view_is) (λ k at. one_place c.args.self.now.desk.kinds k c.in-Some.place c.args.line.kind once at here) here c.in-Err.ensures.full.2

pub returns-clause-fits : goal.returns-clause-fits
returns-clause-fits c k at room =
    let kinds : c.deref.result.now ≡ c.args.self.now.desk.kinds = c.deref.ensures.value ∙ ap (λ (v : DriverView). v.desk.kinds) c.self.view_is in
    let here : get_elem? c.args.self.now.desk.kinds c.in-Some.place ≡ some c.args.line.kind = subst (λ (ks : List UrcKind). get_elem? ks c.in-Some.place ≡ some c.args.line.kind) kinds c.in-Some.ensures in
    let once = subst EachOnce (ap (λ (v : DriverView). v.desk.kinds) c.self.view_is) c.self.invariant.5 in
    let lt : c.in-Some.place < length c.self.inside.lines.items = (let k = (or_at c.deref.result.now c.in-Some.place c.args.line.kind c.args.line.kind c.in-Some.ensures).0 in
    let e = c.deref.ensures.len in let same = c.self.invariant.4 in omega arith) in
    let e = free_at c.self.inside.lines.items c.in-Some.place c.index_mut-ring.result.now c.args.self.now.free_lines lt c.index_mut-ring.ensures.value (ap (λ (v : DriverView). v.free_lines) c.self.view_is) in
    let same = one_place c.args.self.now.desk.kinds k c.in-Some.place c.args.line.kind once at here in
    c.in-Err.ensures.succeeds (subst (λ n. 0 < n) (ap (λ j. get_or c.args.self.now.free_lines j 0) same ∙ sym e) room)

pub count_one-requires : goal.count_one-requires
count_one-requires c =
    let lt = (or_at c.deref.result.now c.in-Some.place c.args.line.kind c.args.line.kind c.in-Some.ensures).0 in
    let e = c.deref.ensures.len in let same = c.self.invariant.8 in omega arith

pub returns-clause-back_counted : goal.returns-clause-back_counted
returns-clause-back_counted c =
    let kinds : c.deref.result.now ≡ c.args.self.now.desk.kinds = c.deref.ensures.value ∙ ap (λ (v : DriverView). v.desk.kinds) c.self.view_is in
    let here : get_elem? c.args.self.now.desk.kinds c.in-Some.place ≡ some c.args.line.kind = subst (λ (ks : List UrcKind). get_elem? ks c.in-Some.place ≡ some c.args.line.kind) kinds c.in-Some.ensures in
    let once = subst EachOnce (ap (λ (v : DriverView). v.desk.kinds) c.self.view_is) c.self.invariant.5 in
    subst (λ (l : List ℕ). Changes (Hears c.args.self.now.desk.kinds c.args.line.kind) RisesByOne l c.count_one.new.counts.items) (ap (λ (v : DriverView). v.announced_back) c.self.view_is)
    (changes_where (Hears c.args.self.now.desk.kinds c.args.line.kind) RisesByOne c.in-Some.place c.self.inside.lines_back.items c.count_one.new.counts.items
    (λ k at. one_place c.args.self.now.desk.kinds k c.in-Some.place c.args.line.kind once at here) here c.count_one.ensures.changes)

pub returns-in_default-push-clause-heard : goal.returns-in_default-push-clause-heard
returns-in_default-push-clause-heard c =
    contains_at c.args.self.now.desk.kinds c.in-Some.place c.args.line.kind
    (subst (λ (ks : List UrcKind). get_elem? ks c.in-Some.place ≡ some c.args.line.kind) (c.deref.ensures.value ∙ ap (λ (v : DriverView). v.desk.kinds) c.self.view_is) c.in-Some.ensures)

pub returns-in_default-clause-back_counted : goal.returns-in_default-clause-back_counted
returns-in_default-clause-back_counted c =
    let none = subst (λ (ks : List UrcKind). ¬ Contains ks c.args.line.kind) (c.deref.ensures.value ∙ ap (λ (v : DriverView). v.desk.kinds) c.self.view_is) c.in_default.ensures in
    none_changes c.args.self.now.desk.kinds c.args.line.kind RisesByOne c.args.self.now.announced_back none

pub returns-in_default-clause-full : goal.returns-in_default-clause-full
returns-in_default-clause-full c =
    let none = subst (λ (ks : List UrcKind). ¬ Contains ks c.args.line.kind) (c.deref.ensures.value ∙ ap (λ (v : DriverView). v.desk.kinds) c.self.view_is) c.in_default.ensures in
    none_changes c.args.self.now.desk.kinds c.args.line.kind RunsOut c.args.self.now.free_lines none

pub returns-in_default-clause-fits : goal.returns-in_default-clause-fits
returns-in_default-clause-fits c k at room =
    let none = subst (λ (ks : List UrcKind). ¬ Contains ks c.args.line.kind) (c.deref.ensures.value ∙ ap (λ (v : DriverView). v.desk.kinds) c.self.view_is) c.in_default.ensures in
    absurd (none (contains_at c.args.self.now.desk.kinds k c.args.line.kind at))
