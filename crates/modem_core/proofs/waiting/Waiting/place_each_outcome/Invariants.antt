-- Those that were offered are told or stay.
use Rattle.std.proofs.Common.{◌≡◌, ◌-◌}
use Rattle.modem_core.proofs.sessions.steps.CallerOffers.{TellsSo}
use Rattle.modem_core.proofs.waiting.Waiting.place_each_outcome.Given as goal

abbrev pub invariant-loop-place : goal.invariant-loop-place
invariant-loop-place l = record {
  so : TellsSo l.fn.driver l.driver l.held_up l.fn.self.outcomes l.self.outcomes (l._place-end - l._place) l.moved;
  lines : l.self.lines ≡ l.fn.self.lines;
}
