use Rattle.std.proofs.Common.{◌≡◌, ℕ, ap, ◌∙◌, ◌++◌, ◌∷◌, [], List, length, sym, subst, ◌+◌}
use Rattle.std.proofs.lemmas.List.{length_push}
use Rattle.std.specs.Prelude.{Contains}
use Rattle.std.specs.declared.alloc.Global.{Global}
use Rattle.rtrb.specs.declared.producer.Producer.{Producer}
use Rattle.rtrb.specs.declared.AnyItems.{AnyItems}
use Rattle.at_text.specs.declared.unsolicited.UrcKind.{UrcKind}
use Rattle.modem_desk.specs.declared.request.Urc.{Urc}
use Rattle.modem_desk.specs.Ends.{DriverView, EachOnce}
use Rattle.modem_desk.proofs.desk_places.KindPlaces.{once_more}
use Rattle.modem_desk.proofs.driver.DriverEnd.add_listener.Goals as goal

pub invariant_of-self-2 : goal.invariant_of-self-2
invariant_of-self-2 c =
    let i = c.self.invariant in
    let pushed = rw c.unwrap.ensures at c.push.ensures.items in
    let pushed_kind = rw c.unwrap-2.ensures at c.push-2.ensures.items in
    let pushed_count = rw c.unwrap-3.ensures at c.push-3.ensures.items in
    let kinds : c.push-2.new.self.items ≡ c.self.inside.kinds.items ++ c.args.kind ∷ [] = pushed_kind ∙ ap (λ (l : List UrcKind). l ++ c.args.kind ∷ []) c.try_reserve-2.ensures.items in
    let lines : c.push.new.self.items ≡ c.self.inside.lines.items ++ c.in_ok-producer.producer ∷ [] = pushed ∙ ap (λ (l : List (Producer Urc Global AnyItems)). l ++ c.in_ok-producer.producer ∷ []) c.try_reserve.ensures.items in
    let many = ap (λ (l : List (Producer Urc Global AnyItems)). length l) lines ∙ length_push c.self.inside.lines.items c.in_ok-producer.producer ∙ ap (λ n. n + 1) i.4
    ∙ sym (ap (λ (l : List UrcKind). length l) kinds ∙ length_push c.self.inside.kinds.items c.args.kind) in
    let new = subst (λ (ks : List UrcKind). ¬ Contains ks c.args.kind) (ap (λ (d : DriverView). d.desk.kinds) (sym c.self.view_is)) c.requires in
    let counts : length c.push-3.new.self.items ≡ length c.push-2.new.self.items =
    ap (λ (l : List ℕ). length l) (pushed_count ∙ ap (λ (l : List ℕ). l ++ 0 ∷ []) c.try_reserve-3.ensures.items) ∙ length_push c.self.inside.lines_back.items 0 ∙ ap (λ n. n + 1) i.8
    ∙ sym (ap (λ (l : List UrcKind). length l) kinds ∙ length_push c.self.inside.kinds.items c.args.kind) in
    (i.0, i.1, i.2, i.3, many, subst EachOnce (sym kinds) (once_more c.self.inside.kinds.items c.args.kind i.5 new), i.6, i.7, counts)
