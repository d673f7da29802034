-- A line was read, or none.
use Rattle.std.proofs.Common.{rules, ◌≡◌, ℕ, subst, refl, Option, false}
use Rattle.std.specs.declared.vec.Vec.{Vec}
use Rattle.std.specs.declared.alloc.Global.{Global}
use Rattle.ctl_drive.specs.Input.{Reads, line_in}
use Rattle.ctl_drive.specs.Plans.{is_stopping}
use Rattle.ctl_drive.proofs.Asks.{asks_from, asks_read, asks_waits, reads_same}
use Rattle.ctl_drive.proofs.plan.Plan.read_on.Goals as goal

pub returns-in_ok-read_line-in-Some-clause-asks : goal.returns-in_ok-read_line-in-Some-clause-asks
returns-in_ok-read_line-in-Some-clause-asks g c submitted =
    let going : is_stopping c.self.inside.phase ≡ false = search rules in
    let reads = subst (λ (o : Option (Vec ℕ Global)). Reads c.self.inside.input c.next.new.self (line_in o)) c.in-Some.is c.in_ok-line.ensures in
    asks_from _ _ _ _ _ _ _ c.self.view_is
    (asks_read (record { input = c.self.inside.input; count = c.self.inside.number; was_bad = c.self.inside.bad; waiting = c.self.inside.queues; stopping = is_stopping c.self.inside.phase })
    (record { input = c.next.new.self; count = c.self.inside.number; was_bad = c.self.inside.bad; waiting = c.self.inside.queues; stopping = is_stopping c.self.inside.phase })
    c.read_line.new.self c.in-Some.line.items submitted _ _ going reads refl
    (reads_same _ _ _ _ _ _ c.as_slice.ensures.value c.in_ok-read_line-in-Some.ensures.reads))

pub returns-in-None-clause-asks : goal.returns-in-None-clause-asks
returns-in-None-clause-asks g c submitted =
    let going : is_stopping c.self.inside.phase ≡ false = search rules in
    asks_from _ _ _ _ _ _ _ c.self.view_is
    (asks_waits (record { input = c.self.inside.input; count = c.self.inside.number; was_bad = c.self.inside.bad; waiting = c.self.inside.queues; stopping = is_stopping c.self.inside.phase })
    (record { input = c.next.new.self; count = c.self.inside.number; was_bad = c.self.inside.bad; waiting = c.self.inside.queues; stopping = is_stopping c.self.inside.phase }) submitted _ going
    (subst (λ (o : Option (Vec ℕ Global)). Reads c.self.inside.input c.next.new.self (line_in o)) c.in-None.is c.in_ok-line.ensures) refl)
