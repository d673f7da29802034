-- One connection more.
use Rattle.std.specs.Prelude.{◌≡◌, ◌+◌, Bool, if◌then◌else◌}
use Rattle.std.proofs.Common.{ap, sym, ◌∙◌, arith}
use Rattle.modem_core.proofs.ticks.StationTicks.{counted, all_counted}
use Rattle.modem_core.proofs.tick.count_asking.Goals as goal
use Rattle.modem_core.proofs.tick.count_asking.Goals.{then-is_asking, else-is_asking}

pub loop-number-preserved : goal.loop-number-preserved
loop-number-preserved c =
    let step = counted c.args.station.now c.loop-number.number c.loop-number.count c.if-is_asking.count c.state.result c.is_asking.result c.loop-number-test.true c.loop-number.invariant.0 c.state.ensures.value c.is_asking.ensures in (
      step (elim c.if-is_asking.branch [
        | then-is_asking w ↦ w.count-is ∙ ap (λ (b : Bool). c.loop-number.count + (if b then 1 else 0)) (sym w.if-is_asking.true)
        | else-is_asking w ↦ (let none : c.loop-number.count ≡ c.loop-number.count + 0 = omega arith in w.count-is ∙ (none ∙ ap (λ (b : Bool). c.loop-number.count + (if b then 1 else 0)) (sym w.if-is_asking.false)))
      ]),
      elim c.if-is_asking.branch [ then-is_asking w ↦ omega arith | else-is_asking w ↦ omega arith ],
    )

pub returns-clause-value : goal.returns-clause-value
returns-clause-value c = all_counted c.args.station.now c.loop-number.number c.loop-number.count c.loop-number-test.false c.loop-number.invariant.0
