-- Those so far have moved up.
use Rattle.std.proofs.Common.{◌≡◌, ◌++◌, take, map}
use Rattle.std.specs.Prelude.{drop}
use Rattle.modem_queues.specs.Hands.{moved_up}
use Rattle.modem_queues.proofs.hand.move_up.Given as goal

abbrev pub invariant-loop-start : goal.invariant-loop-start
invariant-loop-start l = take l.start-index l.starts ++ map (moved_up l.place) (drop l.start-index l.starts) ≡ map (moved_up l.place) l.fn.starts
