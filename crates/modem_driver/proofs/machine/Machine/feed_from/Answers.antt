-- What was fed came from the line.
use Rattle.std.proofs.Common.{◌≡◌, ap, sym, ◌∙◌, subst, take, ℕ, List, []}
use Rattle.line_end.specs.LineEnds.{LineEnd}
use Rattle.modem_driver.specs.SessionStates.{Machine}
use Rattle.modem_driver.specs.EndpointSteps.{FeedsFrom}
use Rattle.modem_driver.proofs.endpoints.TakenOctets.{feeds}
use Rattle.modem_driver.proofs.sessions.steps.MachineParts.{at_end, machine_of}
use Rattle.modem_driver.proofs.machine.Machine.feed_from.Goals as goal

pub returns-clause-feeds : goal.returns-clause-feeds
returns-clause-feeds c =
    let k = c.self.inside in
    let old : Machine = machine_of k in
    let octets = take c.feed_from.result c.args.octets.now in
    let none : old.unfed ≡ [] = ap (λ (v : Machine). v.unfed) c.self.view_is ∙ c.requires in
    let e = c.feed_from.ensures in
    let fed = c.feed_from.new.self.deframer in
    subst (λ (v : Machine). FeedsFrom v (at_end old c.feed_from.new.self) octets) c.self.view_is
    (subst (λ (l : LineEnd). FeedsFrom old (at_end old l) octets) (sym e.rest)
    (subst (λ (xs : List ℕ). FeedsFrom old (record old { unfed = xs; deframer = fed }) octets) (sym none)
    (feeds old fed octets none e.past e.n1)))
