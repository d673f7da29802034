use Rattle.std.proofs.Common.{rules, ℕ, arith, ◌≡◌, refl, ap, ◌∙◌, ◌<◌, List, length, subst, sym}
use Rattle.std.proofs.lemmas.List.{length-map}
use Rattle.modem_desk.specs.Ends.{DriverView, FallsByOne, RisesByOne, RunsOut, Changes}
use Rattle.modem_desk.proofs.desk_places.DriverRings.{same_rings, rings_told, sent_appends, sent_same, free_at, free_changes}
use Rattle.modem_desk.proofs.driver.DriverEnd.tell.Goals as goal

pub returns-clause-same : goal.returns-clause-same
returns-clause-same c = rings_told _ _ _ _ _ _ c.self.view_is (same_rings c.self.inside.rings.items c.args.outcome.caller c.index_mut-ring.result.now c.push.new.self c.index_mut-ring.ensures.value c.push.ensures.ring)

pub returns-in_default-clause-same : goal.returns-in_default-clause-same
returns-in_default-clause-same c = rings_told _ _ _ _ _ _ c.self.view_is (same_rings c.self.inside.rings.items c.args.outcome.caller c.index_mut-ring.result.now c.push.new.self c.index_mut-ring.ensures.value c.push.ensures.ring)

pub returns-in_default-clause-told : goal.returns-in_default-clause-told
returns-in_default-clause-told c =
    let lt : c.args.outcome.caller < length c.self.inside.rings.items = subst (λ n. c.args.outcome.caller < n) (ap (λ (v : DriverView). length v.desk.rings) (sym c.self.view_is) ∙ length-map c.self.inside.rings.items _) c.requires in
    sent_appends c.self.inside.rings.items c.args.outcome.caller c.index_mut-ring.result.now c.push.new.self c.args.outcome c.args.self.now.told lt c.index_mut-ring.ensures.value c.in_default.ensures.ok.0
    (ap (λ (v : DriverView). v.told) c.self.view_is)

pub returns-clause-back : goal.returns-clause-back
returns-clause-back c =
    (search rules, sent_same c.self.inside.rings.items c.args.outcome.caller c.index_mut-ring.result.now c.push.new.self c.index_mut-ring.ensures.value c.in-Err.ensures.full.1 ∙ ap (λ (v : DriverView). v.told) c.self.view_is)

pub returns-in_default-clause-free : goal.returns-in_default-clause-free
returns-in_default-clause-free c =
    let lt : c.args.outcome.caller < length c.self.inside.rings.items = subst (λ n. c.args.outcome.caller < n) (ap (λ (v : DriverView). length v.desk.rings) (sym c.self.view_is) ∙ length-map c.self.inside.rings.items _) c.requires in
    free_changes c.self.inside.rings.items c.args.outcome.caller c.index_mut-ring.result.now c.push.new.self (λ k. k ≡ c.args.outcome.caller) FallsByOne c.args.self.now.free lt c.index_mut-ring.ensures.value
    (ap (λ (v : DriverView). v.free) c.self.view_is) (λ k e. e) refl c.in_default.ensures.ok.1

pub returns-clause-full : goal.returns-clause-full
returns-clause-full c =
    let lt : c.args.outcome.caller < length c.self.inside.rings.items = subst (λ n. c.args.outcome.caller < n) (ap (λ (v : DriverView). length v.desk.rings) (sym c.self.view_is) ∙ length-map c.self.inside.rings.items _) c.requires in
    free_changes c.self.inside.rings.items c.args.outcome.caller c.index_mut-ring.result.now c.push.new.self (λ k. k ≡ c.args.outcome.caller) RunsOut c.args.self.now.free lt c.index_mut-ring.ensures.value
    (ap (λ (v : DriverView). v.free) c.self.view_is) (λ k e. e) refl c.in-Err.ensures.full.2

pub returns-clause-fits : goal.returns-clause-fits
returns-clause-fits c room =
    let lt : c.args.outcome.caller < length c.self.inside.rings.items = subst (λ n. c.args.outcome.caller < n) (ap (λ (v : DriverView). length v.desk.rings) (sym c.self.view_is) ∙ length-map c.self.inside.rings.items _) c.requires in
    let e = free_at c.self.inside.rings.items c.args.outcome.caller c.index_mut-ring.result.now c.args.self.now.free lt c.index_mut-ring.ensures.value (ap (λ (v : DriverView). v.free) c.self.view_is) in
    c.in-Err.ensures.succeeds (subst (λ n. 0 < n) (sym e) room)

pub count_one-requires : goal.count_one-requires
count_one-requires c =
    let lt : c.args.outcome.caller < length c.self.inside.rings.items = subst (λ n. c.args.outcome.caller < n) (ap (λ (v : DriverView). length v.desk.rings) (sym c.self.view_is) ∙ length-map c.self.inside.rings.items _) c.requires in
    let same = c.self.invariant.7 in
    omega arith

pub returns-clause-back_counted : goal.returns-clause-back_counted
returns-clause-back_counted c =
    subst (λ (l : List ℕ). Changes (λ k. k ≡ c.args.outcome.caller) RisesByOne l c.count_one.new.counts.items) (ap (λ (v : DriverView). v.told_back) c.self.view_is) c.count_one.ensures.changes
