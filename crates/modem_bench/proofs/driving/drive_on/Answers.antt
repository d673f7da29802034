-- One poll after the other.
use Rattle.std.proofs.Common.{◌∙◌, ap, subst}
use Rattle.std.specs.Prelude.{Bool, Ok}
use Rattle.modem_bench.specs.Driving.{Steps}
use Rattle.modem_bench.proofs.StandStills.{driven_halts, driven_stops}
use Rattle.modem_bench.proofs.driving.drive_on.Goals as goal

pub returns-in-Err-clause-halts : goal.returns-in-Err-clause-halts
returns-in-Err-clause-halts g c =
    let look = g.L.SerialLine.seen in
    driven_halts look c.args.limits c.args.session.now c.loop.session c.step.new.session c.loop.limit c.step.new.limit c.in-Err.halt c.loop.invariant.driven
    (subst (Steps look c.loop.session c.step.new.session c.loop.limit c.step.new.limit) c.in-Err.is c.step.ensures.stepped)

pub returns-then-ended-clause-stops : goal.returns-then-ended-clause-stops
returns-then-ended-clause-stops g c =
    let look = g.L.SerialLine.seen in
    driven_stops look c.args.limits c.args.session.now c.loop.session c.step.new.session c.loop.limit c.step.new.limit c.loop.invariant.driven
    (subst (Steps look c.loop.session c.step.new.session c.loop.limit c.step.new.limit) (c.in-Ok.is ∙ ap (λ (b : Bool). Ok b) c.if-ended.true) c.step.ensures.stepped)
