use Rattle.std.specs.Prelude.{◌≡◌, ◌++◌, take}
use Rattle.std.specs.List.{flat_map}
use Rattle.std.specs.String.{string_bytes}
use Rattle.modemctl.specs.Files.{quoted_octet}
use Rattle.modemctl.proofs.words.file_faults.push_octets.Given as goal

abbrev pub invariant-loop-octet : goal.invariant-loop-octet
invariant-loop-octet l = string_bytes l.text ≡ string_bytes l.initial.text ++ flat_map quoted_octet (take l.octet-index l.octets)
