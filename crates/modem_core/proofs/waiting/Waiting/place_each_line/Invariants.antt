-- Those that were offered are announced or stay.
use Rattle.std.proofs.Common.{◌≡◌, ◌-◌}
use Rattle.modem_core.proofs.sessions.steps.ListenerOffers.{AnnouncesSo}
use Rattle.modem_core.proofs.waiting.Waiting.place_each_line.Given as goal

abbrev pub invariant-loop-place : goal.invariant-loop-place
invariant-loop-place l = record {
  so : AnnouncesSo l.fn.driver l.driver l.held_up l.fn.self.lines l.self.lines (l.many - l.place) l.moved;
  outcomes : l.self.outcomes ≡ l.fn.self.outcomes;
}
