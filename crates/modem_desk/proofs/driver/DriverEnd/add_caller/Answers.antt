use Rattle.std.proofs.Common.{◌≡◌, ℕ, ap, ◌∙◌, ◌+◌, List, length, sym, subst, ◌<◌, rules, arith}
use Rattle.std.proofs.lemmas.List.{length_push, length-map}
use Rattle.std.specs.declared.alloc.Global.{Global}
use Rattle.rtrb.specs.declared.producer.Producer.{Producer}
use Rattle.rtrb.specs.declared.AnyItems.{AnyItems}
use Rattle.ring_id.specs.Rings.{ring_of_producer}
use Rattle.modem_desk.specs.declared.request.Outcome.{Outcome}
use Rattle.modem_desk.specs.Ends.{DriverView}
use Rattle.modem_desk.proofs.queue_rule.RuleSteps.{adds_caller}
use Rattle.modem_desk.proofs.driver.DriverEnd.add_caller.Goals as goal

pub another-pass-requires-clause-rule : goal.another-pass-requires-clause-rule
another-pass-requires-clause-rule c = adds_caller _ _ (search rules) (search rules)

pub invariant_of-self-2 : goal.invariant_of-self-2
invariant_of-self-2 c =
    let i = c.self.invariant in
    let rings : length c.push.new.self.items ≡ length c.self.inside.rings.items + 1 =
    ap (λ (l : List (Producer Outcome Global AnyItems)). length l) (rw c.unwrap.ensures at c.push.ensures.items) ∙ length_push _ _ ∙ ap (λ (l : List (Producer Outcome Global AnyItems)). length l + 1) c.try_reserve.ensures.items in
    let told : length c.push-2.new.self.items ≡ length c.self.inside.told_back.items + 1 =
    ap (λ (l : List ℕ). length l) (rw c.unwrap-2.ensures at c.push-2.ensures.items) ∙ length_push _ _ ∙ ap (λ (l : List ℕ). length l + 1) c.try_reserve-2.ensures.items in
    let few = subst (λ (n : ℕ). n < 8) (ap (λ (d : DriverView). length d.desk.rings) (sym c.self.view_is) ∙ length-map c.self.inside.rings.items ring_of_producer) c.requires.0 in
    (search rules, i.1, search (rules, rings), omega (arith, rings, few), i.4, i.5, search rules, told ∙ ap (λ n. n + 1) i.7 ∙ sym rings, i.8)
