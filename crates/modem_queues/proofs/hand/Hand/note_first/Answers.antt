-- What is noted holds.
use Rattle.std.proofs.Common.{◌≡◌, ◌≤◌, ◌∙◌, ℕ, List, false, ap, length, take, sym, subst}
use Rattle.std.specs.Prelude.{slice_set, unwrap_or}
use Rattle.std.specs.List.{list_any}
use Rattle.modem_desk.specs.declared.request.Request.{Request}
use Rattle.modem_history.specs.Requests.{commands_on}
use Rattle.modem_queues.specs.Hands.{HandIsKept}
use Rattle.modem_queues.proofs.lists.CommandPlaces.{kept_noted}
use Rattle.modem_queues.proofs.lists.FirstPlaces.{place_or_end}
use Rattle.modem_queues.proofs.hand.Hand.note_first.Goals as goal

pub invariant_of-self : goal.invariant_of-self
invariant_of-self c =
    let k = c.self.inside in
    let d = c.args.dlci.number in
    let n = c.unwrap_or-place.result in
    let is : c.from.result ≡ d = c.from.ensures ∙ c.number.ensures.number in
    let at = place_or_end (commands_on d) c.args.self.now c.command_at.result n c.command_at.ensures.place c.command_at.ensures.few (c.unwrap_or-place.ensures ∙ ap (unwrap_or c.command_at.result) c.len.ensures.value) in
    let within = subst (λ (qs : List Request). n ≤ length qs) (sym c.self.view_is) at.0 in
    let none = subst (λ (qs : List Request). list_any (commands_on d) (take n qs) ≡ false) (sym c.self.view_is) at.1 in
    subst (λ (e : ℕ). HandIsKept k.requests k.gone (slice_set k.starts e n) k.may_stop) (sym is) (kept_noted k.requests k.gone k.starts k.may_stop d n c.self.invariant c.args.dlci.in_range within none)
