-- A line was announced, handed back or not offered.
use Rattle.std.proofs.Common.{◌≡◌, ap, sym, ◌∙◌, subst, arith, true, false, length, List, ◌∷◌, ℕ, refl}
use Rattle.std.specs.Prelude.{slice_index_or, slice_set, [], ◌++◌}
use Rattle.modem_desk.specs.declared.request.Urc.{Urc}
use Rattle.modem_core.specs.Placing.{OffersFirst, Rings, IsListenerOf, IsHeard, listener_rings}
use Rattle.modem_queues.specs.LineQueues.{place_of}
use Rattle.modem_core.specs.WaitingLists.{WaitingLists}
use Rattle.modem_core.proofs.sessions.steps.FirstOffers.{offers_given, offers_back, offers_passed, offers_none}
use Rattle.modem_core.proofs.sessions.steps.ListenerOffers.{announced_alone, listeners_apart, listener_given, listener_full}
use Rattle.modem_core.proofs.waiting.Waiting.offer_line.Goals as goal

pub returns-in_default-clause-offers : goal.returns-in_default-clause-offers
returns-in_default-clause-offers c =
    let d = c.args.driver.now in
    let same = ap (λ (v : WaitingLists). length v.lines) c.self.view_is in
    offers_none place_of (IsListenerOf d.desk.kinds) (IsHeard d.desk.kinds) (listener_rings d) c.args.held_up.now c.args.self.now.lines c.pop_front.new.self.items (sym same ∙ ap (length {A = Urc}) c.in_default.ensures.items.0)

pub returns-then-held_up-kind-clause-offers : goal.returns-then-held_up-kind-clause-offers
returns-then-held_up-kind-clause-offers c =
    let d = c.args.driver.now in
    let o = c.in-Some.line in
    let held = c.args.held_up.now in
    let first = sym (ap (λ (v : WaitingLists). v.lines) c.self.view_is) ∙ c.in-Some.ensures.items in
    let way = subst (λ (n : ℕ). slice_index_or held n false ≡ true) c.place-kind.ensures.place c.if-held_up-kind.true in
    offers_passed place_of (IsListenerOf d.desk.kinds) (IsHeard d.desk.kinds) (listener_rings d) held c.args.self.now.lines c.pop_front.new.self.items c.push_back_reserved.new.self.items o first c.push_back_reserved.ensures.items (λ _. way)

pub returns-in_default-announce-clause-offers : goal.returns-in_default-announce-clause-offers
returns-in_default-announce-clause-offers c =
    let d = c.args.driver.now in
    let e = c.announce.new.self in
    let o = c.in-Some.line in
    let held = c.args.held_up.now in
    let first = sym (ap (λ (v : WaitingLists). v.lines) c.self.view_is) ∙ c.in-Some.ensures.items in
    let has = c.in_default-announce.ensures.heard in
    let way = subst (λ (n : ℕ). slice_index_or held n false ≡ false) c.place-kind.ensures.place c.if-held_up-kind.false in
    offers_given place_of (IsListenerOf d.desk.kinds) (IsHeard d.desk.kinds) (listener_rings d) (listener_rings e) held c.args.self.now.lines c.pop_front.new.self.items o first (listeners_apart d.desk.kinds)
    (listener_given d.desk.kinds o d e has c.in_default-announce.ensures.announced c.in_default-announce.ensures.free c.in_default-announce.ensures.counted) (record { kind = o.kind; is_place = refl; listened = has }) way

pub returns-clause-offers : goal.returns-clause-offers
returns-clause-offers c =
    let d = c.args.driver.now in
    let e = c.announce.new.self in
    let o = c.in-Some.line in
    let held = c.args.held_up.now in
    let long = c.told-held_up in
    let few = c.place-kind.ensures.few in
    let place = c.place-kind.ensures.place in
    let first = sym (ap (λ (v : WaitingLists). v.lines) c.self.view_is) ∙ c.in-Some.ensures.items in
    let same : c.in-Err.line ≡ o = c.in-Err.ensures.back.0 in
    let back = c.push_back_reserved-2.ensures.items ∙ ap (λ (x : Urc). c.pop_front.new.self.items ++ x ∷ []) same in
    let way = subst (λ (n : ℕ). slice_index_or held n false ≡ false) c.place-kind.ensures.place c.if-held_up-kind.false in
    let after : List (List Urc) → Rings Urc = λ ts. record { given = ts; free = e.free_lines; back = e.announced_back } in
    subst (λ (ts : List (List Urc)). OffersFirst place_of (IsListenerOf d.desk.kinds) (IsHeard d.desk.kinds) (listener_rings d) (after ts) held (slice_set held c.place-kind.result true) c.args.self.now.lines c.push_back_reserved-2.new.self.items false) (sym c.in-Err.ensures.back.1)
    (subst (λ (n : ℕ). OffersFirst place_of (IsListenerOf d.desk.kinds) (IsHeard d.desk.kinds) (listener_rings d) (after d.announced) held (slice_set held n true) c.args.self.now.lines c.push_back_reserved-2.new.self.items false) (sym c.place-kind.ensures.place)
    (offers_back place_of (IsListenerOf d.desk.kinds) (IsHeard d.desk.kinds) (listener_rings d) e.free_lines e.announced_back held c.args.self.now.lines c.pop_front.new.self.items c.push_back_reserved-2.new.self.items o first back (listeners_apart d.desk.kinds)
    (listener_full d.desk.kinds o.kind d.free_lines e.free_lines d.announced_back e.announced_back c.in-Err.ensures.full c.in-Err.ensures.back_counted) (omega arith) way))

pub returns-in_default-announce-clause-alone : goal.returns-in_default-announce-clause-alone
returns-in_default-announce-clause-alone c = announced_alone _ _ c.announce.ensures.same

pub returns-clause-alone : goal.returns-clause-alone
returns-clause-alone c = announced_alone _ _ c.announce.ensures.same
