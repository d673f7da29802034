-- None of those so far puts a call through.
use Rattle.std.specs.Prelude.{◌≡◌, false, take}
use Rattle.modem_sim.specs.LineSteps.{any_through}
use Rattle.modem_sim.proofs.announcing.any_through.Given as goal

abbrev pub invariant-loop-line : goal.invariant-loop-line
invariant-loop-line l = any_through (take l.line-index l.lines) ≡ false
