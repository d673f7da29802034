-- So many turns were made, each of which answered Moved.
use Rattle.std.proofs.Common.{◌≡◌}
use Rattle.serial_line.specs.CutLine.{cut_view, other_side_of}
use Rattle.modem_sim.specs.Sims.{SimGoes}
use Rattle.modem_sim.specs.Polls.{MovesOn}
use Rattle.modem_bench.proofs.rounds.turns.Given as goal

abbrev pub invariant-loop : goal.invariant-loop
invariant-loop l = record {
  goes : SimGoes cut_view l.fn.sim l.sim;
  beyond : other_side_of l.sim.line ≡ other_side_of l.fn.sim.line;
  moves : MovesOn cut_view l.fn.sim l.counter l.sim;
}
