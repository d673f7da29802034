-- A poll that was counted: what it moved, or that it failed.
use Rattle.std.proofs.Common.{◌∙◌, ap, subst, sym}
use Rattle.modem_bench.specs.Driving.{Advances, Steps}
use Rattle.modem_bench.specs.declared.driving.Halt.TheVariants as halt
use Rattle.std.specs.Prelude.{Err, Ok, Option}
use Rattle.modem_driver.specs.declared.session.polling.Progress.{Progress}
use Rattle.modem_bench.specs.declared.signals.Fault.{Fault}
use Rattle.modem_bench.proofs.StandStills.{steps_fails, steps_moved}
use Rattle.modem_bench.proofs.driving.step.Goals as goal

pub returns-in-Ok-Some-clause-stepped : goal.returns-in-Ok-Some-clause-stepped
returns-in-Ok-Some-clause-stepped g c =
    let look = g.L.SerialLine.seen in
    let old = c.args.session.now in
    let new = c.poll.new.session in
    steps_moved look old new c.args.limit.now c.may_poll.new.limit c.moved.new.self c.in-Ok-Some.progress c.went_on.result
    (subst (Advances look old new) (c.in-Ok-Some.is ∙ ap (λ (o : Option Progress). Ok o) c.in-Ok-Some.field-0-is) c.poll.ensures.polled) c.in_ok-may_poll.ensures.counted c.moved.ensures c.went_on.ensures

pub returns-in-Err-clause-stepped : goal.returns-in-Err-clause-stepped
returns-in-Err-clause-stepped g c =
    let look = g.L.SerialLine.seen in
    let old = c.args.session.now in
    let new = c.poll.new.session in
    let fails = steps_fails look old new c.args.limit.now c.may_poll.new.limit c.in-Err.fault (subst (Advances look old new) c.in-Err.is c.poll.ensures.polled) in
    subst (λ (f : Fault). Steps look old new c.args.limit.now c.may_poll.new.limit (Err (halt.Failed f))) (sym c.fault_of.ensures) fails
