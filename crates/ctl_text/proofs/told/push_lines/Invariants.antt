use Rattle.std.specs.Prelude.{◌≡◌, ◌++◌, take}
use Rattle.std.specs.List.{flat_map}
use Rattle.std.specs.String.{string_bytes}
use Rattle.ctl_text.specs.Texts.{answer_line_text}
use Rattle.ctl_text.proofs.told.push_lines.Given as goal

abbrev pub invariant-loop-i : goal.invariant-loop-i
invariant-loop-i l = string_bytes l.text ≡ string_bytes l.initial.text ++ flat_map answer_line_text (take l.i l.lines)
