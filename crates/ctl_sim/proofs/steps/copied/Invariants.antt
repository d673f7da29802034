-- The steps so far are copied.
use Rattle.std.specs.Prelude.{◌≡◌, take}
use Rattle.ctl_sim.proofs.steps.copied.Given as goal

abbrev pub invariant-loop-step : goal.invariant-loop-step
invariant-loop-step l = l.copies.items ≡ take l.step-index l.step-items
