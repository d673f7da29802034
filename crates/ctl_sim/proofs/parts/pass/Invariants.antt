-- So far it passed.
use Rattle.std.specs.Prelude.{◌≡◌, ◌++◌, length}
use Rattle.modem_sim.specs.declared.state.ModemState.{ModemState}
use Rattle.ctl_sim.specs.Standing.{setting_by}
use Rattle.ctl_sim.specs.Watching.{PassesOn}
use Rattle.ctl_sim.proofs.parts.pass.Given as goal

abbrev pub decreases-loop-rest : goal.decreases-loop-rest
decreases-loop-rest g l = g.M.Answering.weight l.now (length l.rest.items)

abbrev pub invariant-loop-rest : goal.invariant-loop-rest
invariant-loop-rest g l = record {
  passes :
      (m : ModemState)
      → PassesOn g.M.Answering.holds g.M.Answering.undecided g.V.Watcher.sees g.V.Watcher.begins (setting_by l.setup m) l.fn.first l.now l.initial.watcher l.watcher l.octets l.rest.items
      l.initial.out.items l.out.items;
  pending : l.pending.items ≡ g.M.Answering.undecided l.now ++ l.rest.items;
}
