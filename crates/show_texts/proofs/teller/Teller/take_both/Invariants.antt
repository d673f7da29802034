-- So many frames are told.
use Rattle.std.specs.Prelude.{◌+◌, length, map}
use Rattle.mux_frame.specs.Frames.{kept_frame}
use Rattle.show_texts.specs.Merging.{BothSoFar}
use Rattle.show_texts.proofs.teller.Teller.take_both.Given as goal

abbrev pub invariant-loop-next : goal.invariant-loop-next
invariant-loop-next l =
    BothSoFar l.initial.self l.self (map kept_frame l.to) (map kept_frame l.from) (map kept_frame l.to_left) (map kept_frame l.from_left)

abbrev pub decreases-loop-next : goal.decreases-loop-next
decreases-loop-next l = length l.to_left + length l.from_left
