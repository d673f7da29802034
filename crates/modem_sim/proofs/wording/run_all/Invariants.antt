-- The commands that are left go on from what was done.
use Rattle.std.specs.Prelude.{◌≡◌, fold, drop}
use Rattle.modem_sim.specs.LineSteps.{nothing_ran, ran_next}
use Rattle.modem_sim.proofs.wording.run_all.Given as goal

abbrev pub invariant-loop-command : goal.invariant-loop-command
invariant-loop-command l = fold ran_next l.run (drop l.command-index l.commands) ≡ fold ran_next (nothing_ran l.fn.state) l.commands
