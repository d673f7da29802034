-- So many turns were made, each where it hadn't ended, and each of which answered Moved.
use Rattle.std.proofs.Common.{◌≡◌, ◌+◌, ◌*◌, ◌≤◌}
use Rattle.modem_driver.specs.SessionStates.{TakesMore}
use Rattle.modem_driver.specs.Polls.{SessionGoesOn, MovesOn}
use Rattle.modem_driver.proofs.session.Session.turns.Given as goal

abbrev pub invariant-loop : goal.invariant-loop
invariant-loop g l =
    let look = g.L.SerialLine.seen in
    record {
      goes : SessionGoesOn look l.fn.self l.self;
      moves : MovesOn look l.fn.self l.counter l.self;
      takes : TakesMore l.fn.self.driver l.self.driver;
      beyond : g.L.SerialLine.other_side l.self.line ≡ g.L.SerialLine.other_side l.fn.self.line;
      calls : (g.L.SerialLine.seen l.self.line).calls ≤ (g.L.SerialLine.seen l.fn.self.line).calls + 2 * l.counter;
    }
