use Rattle.std.specs.Prelude.{◌≡◌, map, take}
use Rattle.std.specs.List.{flat_map}
use Rattle.std.specs.String.{string_bytes}
use Rattle.mux_frame.specs.Frames.{kept_frame}
use Rattle.ctl_run.specs.Texts.{frame_text}
use Rattle.ctl_run.proofs.texts.frames_text.Given as goal

abbrev pub invariant-loop-frame : goal.invariant-loop-frame
invariant-loop-frame l = string_bytes l.text ≡ flat_map frame_text (map kept_frame (take l.frame-index l.frames))
