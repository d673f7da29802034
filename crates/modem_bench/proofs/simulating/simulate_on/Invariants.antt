-- All polls so far gave nothing. Its line is the same.
use Rattle.std.specs.Prelude.{◌≡◌}
use Rattle.modem_bench.proofs.Simulations.{Waited}
use Rattle.modem_bench.proofs.simulating.simulate_on.Given as goal

abbrev pub invariant-loop : goal.invariant-loop
invariant-loop g l =
    let side = g.L.SerialLine.other_side in
    record {
      waited : Waited g.L.SerialLine.seen l.initial.sim l.sim;
      beyond : side l.sim.line ≡ side l.initial.sim.line;
    }
