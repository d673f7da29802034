-- What the core told waits.
use Rattle.std.proofs.Common.{◌≡◌, ap, sym, ◌∙◌, subst, false, refl}
use Rattle.std.specs.Prelude.{List}
use Rattle.modem_desk.specs.declared.request.Urc.{Urc}
use Rattle.modem_history.specs.Acts.{Tick}
use Rattle.modem_driver.specs.declared.machine.course.Course.{Course}
use Rattle.modem_core.specs.Doing.{acts_since, stop_in}
use Rattle.modem_driver.specs.Endings.{course_after}
use Rattle.modem_queues.specs.Stops.{is_answered}
use Rattle.modem_driver.specs.SessionStates.{Machine, MachineTicks}
use Rattle.modem_driver.specs.WaitingTicks.{CountsTick}
use Rattle.modem_core.proofs.cores.DoneCalls.{keeps_since}
use Rattle.modem_driver.proofs.sessions.steps.StartAndTick.{tick_goes}
use Rattle.modem_driver.proofs.sessions.steps.MachineParts.{machine_of}
use Rattle.modem_driver.proofs.machine.Machine.tick.Goals as goal

pub returns-clause-ticks : goal.returns-clause-ticks
returns-clause-ticks c =
    let k = c.self.inside in
    let old : Machine = machine_of k in
    let core = c.tick-answered.new.core in
    let w = c.tick-answered.new.self in
    let live : k.core.lost ≡ false = sym c.is_lost.ensures ∙ c.if-is_lost.false in
    let does = c.tick-answered.ensures.does in
    let acts = acts_since Tick k.core core does.told in
    let course : c.go_on.new.self ≡ course_after k.course (is_answered (stop_in k.core) acts) = c.go_on.ensures ∙ ap (course_after k.course) does.answered_is in
    let delays = c.delays_after_tick-delays.result in
    let counts : CountsTick old.delays delays old.core.hand = subst (λ (v : Machine). CountsTick v.delays delays v.core.hand) (sym c.self.view_is) c.delays_after_tick-delays.ensures in
    let new : Course → List Urc → Machine = λ x us. record old { core = core; unplaced = w.outcomes; unannounced = us; delays = delays; course = x } in
    subst (λ (v : Machine). MachineTicks v (new c.go_on.new.self w.lines)) c.self.view_is
    (subst (λ (x : Course). MachineTicks old (new x w.lines)) (sym course)
    (subst (λ (us : List Urc). MachineTicks old (new (course_after k.course (is_answered (stop_in k.core) acts)) us)) (sym c.tick-answered.ensures.lines)
    (tick_goes old core delays (record { outcomes = w.outcomes; lines = k.waiting.lines }) acts does.past does.holds
    (keeps_since Tick k.core core k.waiting.outcomes w.outcomes does.told k.waiting.lines (λ xs. refl) (λ xs. refl) does.adds) counts live)))
