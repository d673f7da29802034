-- The least caller of both parts of the ring.
use Rattle.std.proofs.Common.{sym, subst, ◌++◌}
use Rattle.modem_core.specs.WaitingLists.{IsLeast}
use Rattle.modem_core.specs.WaitingLists.{WaitingLists}
use Rattle.modem_core.proofs.sessions.steps.FirstWaiting.{least_alone, least_both}
use Rattle.modem_core.proofs.waiting.Waiting.least_caller.Goals as goal

pub returns-in-Some-least_of : goal.returns-in-Some-least_of
returns-in-Some-least_of c =
    let first = c.in-Some.ensures.least in
    let second = c.in-Some-least_of.ensures.least in
    let both = least_both c.in-Some.first c.in-Some-least_of.second c.as_slices.result.0.now c.as_slices.result.1.now first.0 first.1 second.0 second.1 in
    subst (λ (w : WaitingLists). IsLeast c.min.result w.outcomes) c.self.view_is
    (subst (IsLeast c.min.result) c.as_slices.ensures.items
    (subst (λ n. IsLeast n (c.as_slices.result.0.now ++ c.as_slices.result.1.now)) (sym c.min.ensures) both))

pub returns-in-None : goal.returns-in-None
returns-in-None c =
    let first = c.in-Some.ensures.least in
    let alone = least_alone c.in-Some.first c.as_slices.result.0.now c.as_slices.result.1.now first.0 first.1 c.in-None.ensures.none in
    subst (λ (w : WaitingLists). IsLeast c.in-Some.first w.outcomes) c.self.view_is (subst (IsLeast c.in-Some.first) c.as_slices.ensures.items alone)
