-- What came so far was answered by what was written, and all of it that is decided was seen.
use Rattle.std.specs.Prelude.{◌≡◌, []}
use Rattle.modem_sim.specs.declared.state.ModemState.{ModemState}
use Rattle.ctl_sim.specs.Standing.{setting_by}
use Rattle.ctl_sim.specs.Watching.{WatchedSoFar}
use Rattle.ctl_sim.proofs.serving.serve.Given as goal

abbrev pub invariant-loop : goal.invariant-loop
invariant-loop g l = record {
  so_far :
      (m : ModemState) → g.M.Answering.holds (setting_by l.setup m) [] [] [] l.fn.first []
      → WatchedSoFar g.M.Answering.holds g.M.Answering.undecided g.V.Watcher.sees g.V.Watcher.begins (setting_by l.setup m) (g.I.Read.remaining l.initial.input)
      (g.I.Read.remaining l.input) (g.W.Write.contents l.initial.output) (g.W.Write.contents l.output) l.now l.initial.watcher l.watcher;
  pending : l.pending.items ≡ g.M.Answering.undecided l.now;
  none_left : l.out.items ≡ [];
}
