-- An outcome was told, handed back or not offered.
use Rattle.std.proofs.Common.{◌≡◌, ap, sym, ◌∙◌, subst, arith, true, false, ◌<◌, length, List, ◌∷◌, ℕ}
use Rattle.std.specs.Prelude.{slice_index_or, slice_set, [], ◌++◌}
use Rattle.modem_desk.specs.declared.request.Outcome.{Outcome}
use Rattle.modem_core.specs.Placing.{OffersFirst, caller_of, Rings, IsRingOf, IsCaller, caller_rings}
use Rattle.modem_core.specs.WaitingLists.{WaitingLists}
use Rattle.modem_core.proofs.sessions.steps.FirstOffers.{offers_given, offers_back, offers_passed, offers_none}
use Rattle.modem_core.proofs.sessions.steps.CallerOffers.{rings_apart, ring_given, ring_full, told_alone}
use Rattle.modem_core.proofs.waiting.Waiting.offer_outcome.Goals as goal
use Rattle.modem_core.proofs.waiting.Waiting.offer_outcome.Goals.{then-held_up-caller-via-then-held_up-caller, then-held_up-caller-via-else-held_up-caller+then-outcome-callers}

pub returns-in_default-clause-offers : goal.returns-in_default-clause-offers
returns-in_default-clause-offers c =
    let d = c.args.driver.now in
    let same = ap (λ (v : WaitingLists). length v.outcomes) c.self.view_is in
    let none = c.in_default.ensures.cases.0 in
    offers_none caller_of IsRingOf (IsCaller d.desk) (caller_rings d) c.args.held_up.now c.args.self.now.outcomes c.pop_front.new.self.items (sym same ∙ (sym c.self.inside.outcomes.ok.0 ∙ none))

pub returns-then-held_up-caller-clause-offers : goal.returns-then-held_up-caller-clause-offers
returns-then-held_up-caller-clause-offers c =
    let d = c.args.driver.now in
    let o = c.in-Some.outcome in
    let held = c.args.held_up.now in
    let first = sym (ap (λ (v : WaitingLists). v.outcomes) c.self.view_is) ∙ c.in-Some.ensures.items in
    let way : o.caller < length d.desk.rings → slice_index_or held o.caller false ≡ true =
    λ k. elim c.then-held_up-caller.branch [
      | then-held_up-caller-via-then-held_up-caller w ↦ subst (λ (n : ℕ). slice_index_or held n false ≡ true) c.from-caller.ensures w.if-held_up-caller.true
      | then-held_up-caller-via-else-held_up-caller+then-outcome-callers w ↦ absurd (let many = w.if-outcome-callers.true in let count = w.callers.ensures in omega arith)
    ] in
    offers_passed caller_of IsRingOf (IsCaller d.desk) (caller_rings d) held c.args.self.now.outcomes c.pop_front.new.self.items c.push_back_reserved.new.self.items o first c.push_back_reserved.ensures.items way

pub returns-in_default-tell-clause-offers : goal.returns-in_default-tell-clause-offers
returns-in_default-tell-clause-offers c =
    let d = c.args.driver.now in
    let e = c.tell.new.self in
    let o = c.in-Some.outcome in
    let held = c.args.held_up.now in
    let first = sym (ap (λ (v : WaitingLists). v.outcomes) c.self.view_is) ∙ c.in-Some.ensures.items in
    let known = c.if-outcome-callers.false in
    let count = c.callers.ensures in
    let way = subst (λ (n : ℕ). slice_index_or held n false ≡ false) c.from-caller.ensures c.if-held_up-caller.false in
    offers_given caller_of IsRingOf (IsCaller d.desk) (caller_rings d) (caller_rings e) held c.args.self.now.outcomes c.pop_front.new.self.items o first rings_apart
    (ring_given o d e c.in_default-tell.ensures.told c.in_default-tell.ensures.free c.in_default-tell.ensures.counted) (omega arith) way

pub returns-clause-offers : goal.returns-clause-offers
returns-clause-offers c =
    let d = c.args.driver.now in
    let e = c.tell.new.self in
    let o = c.in-Some.outcome in
    let held = c.args.held_up.now in
    let long = c.told-held_up in
    let known = c.if-outcome-callers.false in
    let few = c.callers.type_inv in
    let first = sym (ap (λ (v : WaitingLists). v.outcomes) c.self.view_is) ∙ c.in-Some.ensures.items in
    let same : c.in-Err.outcome ≡ o = c.in-Err.ensures.back.0 in
    let back = c.push_back_reserved-2.ensures.items ∙ ap (λ (x : Outcome). c.pop_front.new.self.items ++ x ∷ []) same in
    let way = subst (λ (n : ℕ). slice_index_or held n false ≡ false) c.from-caller.ensures c.if-held_up-caller.false in
    let after : List (List Outcome) → Rings Outcome = λ ts. record { given = ts; free = e.free; back = e.told_back } in
    subst (λ (ts : List (List Outcome)). OffersFirst caller_of IsRingOf (IsCaller d.desk) (caller_rings d) (after ts) held (slice_set held c.from-caller.result true) c.args.self.now.outcomes c.push_back_reserved-2.new.self.items false) (sym c.in-Err.ensures.back.1)
    (subst (λ (n : ℕ). OffersFirst caller_of IsRingOf (IsCaller d.desk) (caller_rings d) (after d.told) held (slice_set held n true) c.args.self.now.outcomes c.push_back_reserved-2.new.self.items false) (sym c.from-caller.ensures)
    (offers_back caller_of IsRingOf (IsCaller d.desk) (caller_rings d) e.free e.told_back held c.args.self.now.outcomes c.pop_front.new.self.items c.push_back_reserved-2.new.self.items o first back rings_apart
    (ring_full o.caller d.free e.free d.told_back e.told_back c.in-Err.ensures.full c.in-Err.ensures.back_counted) (omega arith) way))

pub returns-in_default-tell-clause-alone : goal.returns-in_default-tell-clause-alone
returns-in_default-tell-clause-alone c = told_alone _ _ c.tell.ensures.same

pub returns-clause-alone : goal.returns-clause-alone
returns-clause-alone c = told_alone _ _ c.tell.ensures.same
