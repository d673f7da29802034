use Rattle.std.specs.Prelude.{◌≡◌, ◌++◌, take}
use Rattle.std.specs.List.{flat_map}
use Rattle.std.specs.String.{string_bytes}
use Rattle.mux_frame.specs.Frames.{frame_of}
use Rattle.show_texts.specs.Lines.{told_line}
use Rattle.show_texts.proofs.line.push_told_lines.Given as goal

abbrev pub invariant-loop-one : goal.invariant-loop-one
invariant-loop-one l =
    string_bytes l.text
    ≡ string_bytes l.initial.text ++ flat_map (told_line l.dialect l.stamp l.direction l.asked (frame_of l.frame)) (take l.one-index l.told)
