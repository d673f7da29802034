-- So many frames are told.
use Rattle.std.specs.Prelude.{map, take}
use Rattle.mux_frame.specs.Frames.{kept_frame}
use Rattle.show_texts.specs.Captures.{TellsFrames}
use Rattle.show_texts.proofs.teller.Teller.take_frames.Given as goal

abbrev pub invariant-loop-frame : goal.invariant-loop-frame
invariant-loop-frame l =
    TellsFrames l.initial.self l.self (record { stamp = l.stamp; direction = l.direction; octets = l.octets })
    (map kept_frame (take l.frame-index l.frames))
