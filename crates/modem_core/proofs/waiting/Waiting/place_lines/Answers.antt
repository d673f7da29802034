-- Where none waits, or all are held up, they stay.
use Rattle.std.proofs.Common.{sym, ◌∙◌, subst}
use Rattle.std.proofs.lemmas.List.{nil_from_length}
use Rattle.modem_desk.specs.Ends.{DeskId}
use Rattle.modem_core.specs.Placing.{Placed, IsListenerOf, IsHeard, listener_rings}
use Rattle.modem_queues.specs.LineQueues.{place_of}
use Rattle.modem_core.proofs.sessions.steps.ListenerOffers.{announces_none}
use Rattle.modem_core.proofs.sessions.steps.HeldUp.{placed_looked, announces_on}
use Rattle.modem_core.proofs.waiting.Waiting.place_lines.Goals as goal

pub returns-then-many-eq0-clause-placed : goal.returns-then-many-eq0-clause-placed
returns-then-many-eq0-clause-placed c = announces_none c.args.driver.now c.args.self.now.lines (nil_from_length c.args.self.now.lines (sym c.many.ensures ∙ c.if-many-eq0.true))

pub returns-then-are_held_up-clause-placed : goal.returns-then-are_held_up-clause-placed
returns-then-are_held_up-clause-placed c = c.are_held_up.ensures.placed c.if-are_held_up.true

pub returns-clause-placed : goal.returns-clause-placed
returns-clause-placed c =
    let d = c.args.driver.now in
    let m = c.are_held_up.new.driver in
    let e = c.place_each_line.new.driver in
    placed_looked place_of (IsListenerOf d.desk.kinds) (IsHeard d.desk.kinds) (listener_rings d) (listener_rings m) (listener_rings e) c.args.self.now.lines c.place_each_line.new.self.lines c.place_each_line.result c.are_held_up.ensures.given (c.are_held_up.ensures.back c.if-are_held_up.false)
    (subst (λ (k : DeskId). Placed place_of (IsListenerOf k.kinds) (IsHeard k.kinds) (listener_rings m) (listener_rings e) c.args.self.now.lines c.place_each_line.new.self.lines c.place_each_line.result) c.are_held_up.ensures.alone.desk c.place_each_line.ensures.placed)

pub returns-clause-alone : goal.returns-clause-alone
returns-clause-alone c = announces_on c.args.driver.now c.are_held_up.new.driver c.place_each_line.new.driver c.are_held_up.ensures.alone c.place_each_line.ensures.alone
