-- So many are done, and fewer are left.
use Rattle.std.specs.Prelude.{◌≡◌, ◌<◌, true, false, length}
use Rattle.modem_sim.specs.Acts.{is_step_act}
use Rattle.modem_sim.specs.Cores.{Goes, HasPassed}
use Rattle.modem_sim.proofs.sim_core.SimCore.do_steps.Given as goal

abbrev pub invariant-loop-done : goal.invariant-loop-done
invariant-loop-done l = record {
  goes : Goes is_step_act l.fn.self l.self;
  passed : HasPassed l.fn.self l.self;
  same : l.done ≡ false → l.self ≡ l.fn.self;
  fewer : l.done ≡ true → length l.self.steps < length l.fn.self.steps;
  n1 : l.self.station.n1 ≡ l.fn.self.station.n1;
}

abbrev pub decreases-loop-done : goal.decreases-loop-done
decreases-loop-done l = length l.self.steps
