-- So many turns were made, each of which answered Moved.
use Rattle.std.proofs.Common.{◌≡◌, ◌+◌, ◌*◌, ◌≤◌}
use Rattle.modem_sim.specs.Sims.{SimGoes}
use Rattle.modem_sim.specs.Polls.{MovesOn}
use Rattle.modem_sim.proofs.sim.Sim.turns.Given as goal

abbrev pub invariant-loop : goal.invariant-loop
invariant-loop g l = record {
  goes : SimGoes g.L.SerialLine.seen l.fn.self l.self;
  moves : MovesOn g.L.SerialLine.seen l.fn.self l.counter l.self;
  beyond : g.L.SerialLine.other_side l.self.line ≡ g.L.SerialLine.other_side l.fn.self.line;
  calls : (g.L.SerialLine.seen l.self.line).calls ≤ (g.L.SerialLine.seen l.fn.self.line).calls + 2 * l.counter;
}
