-- The listener of the only kind that waits was looked at.
use Rattle.std.proofs.Common.{ap, ◌≡◌, ◌≤◌, List, [], ◌∷◌, length, subst, arith}
use Rattle.std.specs.Prelude.{take}
use Rattle.at_text.specs.Kinds.{kind_place}
use Rattle.modem_desk.specs.declared.request.Urc.{Urc}
use Rattle.modem_desk.specs.Ends.{DriverView}
use Rattle.modem_queues.specs.LineQueues.{of_key, place_of}
use Rattle.modem_core.specs.WaitingLists.{WaitingLists}
use Rattle.modem_core.proofs.sessions.steps.HeldUp.{lines_stay}
use Rattle.modem_core.proofs.sessions.steps.ListenerOffers.{looked_alone}
use Rattle.modem_core.proofs.waiting.Waiting.are_held_up.Goals as goal

pub returns-clause-placed : goal.returns-clause-placed
returns-clause-placed c full =
    let d = c.args.driver.now in
    let u = c.in-Some.line.now in
    let waited = c.args.self.now.lines in
    let same : c.self.inside.lines.items ≡ waited = ap (λ (v : WaitingLists). v.lines) c.self.view_is in
    let first : take 1 waited ≡ u ∷ [] = subst (λ (us : List Urc). take 1 us ≡ u ∷ []) same c.in-Some.ensures in
    let many : length waited ≤ length (of_key place_of (kind_place u.kind) waited) =
    (let of_kind = c.of_kind.ensures in let all = c.many.ensures in let few = c.if-of_kind-many.false in
    let same_kind = ap (λ (us : List Urc). length (of_key place_of (kind_place u.kind) us)) same in omega (arith, of_kind, all, few, same_kind)) in
    lines_stay d c.hands_back.new.self waited u first many (ap (λ (v : DriverView). v.announced) c.hands_back.ensures.same) (c.hands_back.ensures.full full) (c.hands_back.ensures.back_counted full)

pub returns-clause-given : goal.returns-clause-given
returns-clause-given c = ap (λ (v : DriverView). v.announced) c.hands_back.ensures.same

pub returns-clause-alone : goal.returns-clause-alone
returns-clause-alone c = looked_alone _ _ c.hands_back.ensures.same
