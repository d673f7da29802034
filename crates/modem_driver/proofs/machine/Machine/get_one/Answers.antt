-- What the frame called for waits, or the frame stays at hand.
use Rattle.std.proofs.Common.{◌≡◌, List, ap, sym, ◌∙◌, subst, refl, false, true}
use Rattle.mux_frame.specs.Deframing.{HandsOver}
use Rattle.mux_frame.specs.Frames.{frame_of}
use Rattle.line_end.specs.LineEnds.{LineEnd}
use Rattle.modem_history.specs.Acts.{Got}
use Rattle.modem_driver.specs.declared.machine.course.Course.{Course}
use Rattle.modem_queues.specs.Stops.{is_answered}
use Rattle.modem_driver.specs.Endings.{course_after}
use Rattle.modem_driver.specs.SessionStates.{Machine}
use Rattle.modem_desk.specs.declared.request.Urc.{Urc}
use Rattle.modem_core.specs.Doing.{acts_since, stop_in}
use Rattle.modem_core.proofs.cores.DoneCalls.{keeps_since}
use Rattle.modem_driver.specs.GettingSteps.{HasData, MachineGets}
use Rattle.modem_driver.proofs.sessions.steps.FrameAtHand.{gets_data, gets_moved, gets_none, has_data, none_at_hand, stays_at_hand}
use Rattle.modem_driver.proofs.sessions.steps.MachineParts.{at_end, machine_of}
use Rattle.modem_driver.proofs.machine.Machine.get_one.Goals as goal

pub returns-in_default-clause-gets : goal.returns-in_default-clause-gets
returns-in_default-clause-gets c =
    let k = c.self.inside in
    let old : Machine = machine_of k in
    subst (λ (v : Machine). MachineGets v (at_end old c.peek.follows.lender-at-none) false) c.self.view_is
    (subst (λ (l : LineEnd). MachineGets old (at_end old l) false) (sym c.peek.follows.holds-at-none)
    (gets_none old old.core old.deframer old.unplaced old.unannounced (none_at_hand old (sym c.in_default.ensures.frame)) refl refl refl refl))

pub returns-clause-gets : goal.returns-clause-gets
returns-clause-gets c =
    let k = c.self.inside in
    let old : Machine = machine_of k in
    let core = c.get_data.new.core in
    let fed = c.advance-2.new.self.deframer in
    let w = c.get_data.new.self in
    let same = c.peek.follows.holds-at-none in
    let passed = c.advance-2.ensures.rest ∙ ap (λ (l : LineEnd). record l { deframer = fed }) same in
    let new : LineEnd → Machine = λ l. at_end (record old { core = core; unplaced = w.outcomes; unannounced = w.lines }) l in
    subst (λ (v : Machine). MachineGets v (new c.advance-2.new.self) true) c.self.view_is
    (subst (λ (l : LineEnd). MachineGets old (new l) true) (sym passed)
    (gets_data old core fed w (frame_of c.in-Some.frame) c.in-Ok.ensures.gets
    (sym c.in-Some.ensures.frame) (c.advance-2.ensures.n1 ∙ ap (λ (l : LineEnd). l.deframer.n1) same) (subst (λ (l : LineEnd). HandsOver l.deframer fed) same c.advance-2.ensures.past)))

pub returns-then-not-is_data-clause-gets : goal.returns-then-not-is_data-clause-gets
returns-then-not-is_data-clause-gets c =
    let k = c.self.inside in
    let old : Machine = machine_of k in
    let core = c.get.new.core in
    let w = c.get.new.self in
    let fed = c.advance.new.self.deframer in
    let f = frame_of c.in-Some.frame in
    let same = c.peek.follows.holds-at-none in
    let passed = c.advance.ensures.rest ∙ ap (λ (l : LineEnd). record l { deframer = fed }) same in
    let does = c.in-Some-get.ensures.does in
    let acts = acts_since (Got f) k.core core does.told in
    let course : c.go_on.new.self ≡ course_after k.course (is_answered (stop_in k.core) acts) = c.go_on.ensures ∙ ap (course_after k.course) does.answered_is in
    let new : Course → List Urc → LineEnd → Machine = λ x us l. at_end (record old { core = core; unplaced = w.outcomes; unannounced = us; course = x }) l in
    let after = course_after k.course (is_answered (stop_in k.core) acts) in
    subst (λ (v : Machine). MachineGets v (new c.go_on.new.self w.lines c.advance.new.self) true) c.self.view_is
    (subst (λ (l : LineEnd). MachineGets old (new c.go_on.new.self w.lines l) true) (sym passed)
    (subst (λ (x : Course). MachineGets old (new x w.lines (record k.line_end { deframer = fed })) true) (sym course)
    (subst (λ (us : List Urc). MachineGets old (new after us (record k.line_end { deframer = fed })) true) (sym c.get.ensures.lines)
    (gets_moved old core fed (record { outcomes = w.outcomes; lines = k.waiting.lines }) acts f does.past does.holds
    (keeps_since (Got f) k.core core k.waiting.outcomes w.outcomes does.told k.waiting.lines (λ xs. refl) (λ xs. refl) does.adds)
    (sym c.in-Some.ensures.frame) (c.advance.ensures.n1 ∙ ap (λ (l : LineEnd). l.deframer.n1) same) (subst (λ (l : LineEnd). HandsOver l.deframer fed) same c.advance.ensures.past)))))

pub returns-in_default-get-clause-gets : goal.returns-in_default-get-clause-gets
returns-in_default-get-clause-gets c =
    let k = c.self.inside in
    let old : Machine = machine_of k in
    let core = c.get.new.core in
    let w = c.get.new.self in
    let e = c.in_default-get.ensures in
    let new : LineEnd → Machine = λ l. at_end (record old { core = core; unplaced = w.outcomes; unannounced = w.lines }) l in
    subst (λ (v : Machine). MachineGets v (new c.peek.follows.lender-at-none) false) c.self.view_is
    (subst (λ (l : LineEnd). MachineGets old (new l) false) (sym c.peek.follows.holds-at-none)
    (gets_none old core old.deframer w.outcomes w.lines (stays_at_hand old (frame_of c.in-Some.frame) c.in-Some.ensures.frame e.never_full e.no_room) e.stays refl e.untold c.get.ensures.lines))

pub returns-in_default-get_data-clause-at_hand : goal.returns-in_default-get_data-clause-at_hand
returns-in_default-get_data-clause-at_hand c =
    subst HasData c.self.view_is (has_data (machine_of c.self.inside) (frame_of c.in-Some.frame) c.is_data.result c.in-Some.ensures.frame c.is_data.ensures.value c.if-not-is_data.false)
