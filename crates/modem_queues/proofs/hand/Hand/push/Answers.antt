-- The last comes behind the others.
use Rattle.std.proofs.Common.{◌≡◌, ◌<◌, ◌+◌, ◌++◌, ◌∷◌, [], ◌∙◌, ◌||◌, Bool, List, true, length, ap, sym, subst, arith, if◌then◌else◌}
use Rattle.std.specs.Prelude.{drop}
use Rattle.std.specs.Result.{is_ok}
use Rattle.std.specs.Vec.{vec_len}
use Rattle.std.proofs.lemmas.List.{length-drop, drop-append-le}
use Rattle.modem_desk.specs.declared.request.Request.{Request}
use Rattle.modem_queues.proofs.lists.CommandPlaces.{kept_last}
use Rattle.modem_queues.proofs.hand.Hand.push.Goals as goal

pub invariant_of-self : goal.invariant_of-self
invariant_of-self c =
    let k = c.self.inside in
    let q = c.args.request in
    let between = c.make_place.new.requests in
    let gone = c.make_place.new.gone in
    let made = c.make_place.ensures in
    let pushed : is_ok c.push.result ≡ true = ap is_ok c.unwrap.ensures in
    let long : vec_len c.push.new.self ≡ vec_len between + 1 = c.push.ensures.len ∙ ap (λ (b : Bool). if b then vec_len between + 1 else vec_len between) pushed in
    let items = c.push.ensures.items ∙ ap (λ (b : Bool). if b then between.items ++ q ∷ [] else between.items) pushed in
    let under : length (drop k.gone k.requests.items) < 128 = subst (λ (qs : List Request). length qs < 128) (sym (c.self.view_is ∙ c.note_before.ensures)) c.requires in
    let behind = length-drop k.gone k.requests.items in
    let counted = k.requests.ok.0 in
    let among = between.ok.0 in
    let all = c.self.invariant.all in
    let had = c.self.invariant.room in
    let place : vec_len between < 192 = made.place (omega (arith, under, behind, counted)) all in
    let many = made.many in
    let within = made.within in
    let same = made.room in
    let room = c.push.ensures.capacity in
    kept_last k.requests c.push.new.self k.gone gone k.starts k.may_stop _ q c.self.invariant (omega (arith, long, within)) (omega (arith, long, many, under, behind, counted)) (omega (arith, long, place)) (omega (arith, had, same, room))
    (ap (drop gone) items ∙ (drop-append-le gone between.items (q ∷ []) (omega (arith, within, among)) ∙ ap (λ (qs : List Request). qs ++ q ∷ []) made.items)) (ap (λ (b : Bool). k.may_stop || b) c.is_stop.ensures)
