use Rattle.std.specs.Prelude.{◌≡◌, ◌++◌, take}
use Rattle.std.specs.List.{flat_map}
use Rattle.std.specs.String.{string_bytes}
use Rattle.ctl_text.specs.Texts.{octet_text}
use Rattle.ctl_text.proofs.told.push_line.Given as goal

abbrev pub invariant-loop-octet : goal.invariant-loop-octet
invariant-loop-octet l = string_bytes l.text ≡ string_bytes l.initial.text ++ flat_map octet_text (take l.octet-index l.line)
