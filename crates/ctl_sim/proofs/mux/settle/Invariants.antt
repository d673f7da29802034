-- The turns so far.
use Rattle.std.specs.Prelude.{◌≡◌}
use Rattle.modem_sim.specs.Sims.{SimGoes, has_failed}
use Rattle.ctl_sim.specs.Endless.{MovesFor}
use Rattle.ctl_sim.specs.HeldLine.{held_side, held_view}
use Rattle.ctl_sim.proofs.mux.settle.Given as goal

abbrev pub invariant-loop : goal.invariant-loop
invariant-loop l = record {
  goes : SimGoes held_view l.initial.sim l.sim;
  side : held_side l.sim.line ≡ held_side l.initial.sim.line;
  sound : has_failed l.sim ≡ has_failed l.initial.sim;
  moves : MovesFor l.counter l.initial.sim l.sim;
}
