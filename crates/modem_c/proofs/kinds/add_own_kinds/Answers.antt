-- One place more.
use Rattle.std.specs.Prelude.{Vec}
use Rattle.std.specs.Global.{Global}
use Rattle.std.proofs.Common.{ap, ◌∙◌}
use Rattle.at_text.specs.declared.unsolicited.UrcKind.{UrcKind}
use Rattle.modem_c.proofs.OwnKinds.{all_in, none_in, one_in}
use Rattle.modem_c.proofs.kinds.add_own_kinds.Goals.{then-own-place-eq1+in_ok-push, else-own-place-eq1}
use Rattle.modem_c.proofs.kinds.add_own_kinds.Goals as goal

pub loop-place-preserved : goal.loop-place-preserved
loop-place-preserved c =
    let i = c.loop-place.invariant in
    elim c.if-own-place-eq1.branch [ then-own-place-eq1+in_ok-push w ↦ one_in _ _ _ _ _ i w.if-own-place-eq1.true (ap (λ (v : Vec UrcKind Global). v.items) w.kinds-is ∙ w.in_ok-push.ensures.items) | else-own-place-eq1 w ↦ none_in _ _ _ _ _ i w.if-own-place-eq1.false (ap (λ (v : Vec UrcKind Global). v.items) w.kinds-is) ]

pub returns : goal.returns
returns c = all_in _ _ _ _ c.loop-place.invariant c.loop-place-test.false c.loop-place.auto.place-end
