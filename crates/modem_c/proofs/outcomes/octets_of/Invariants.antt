-- The sum is that of the lines so far.
use Rattle.std.specs.Prelude.{◌≡◌, ◌^◌, ◌-◌, length, min, take}
use Rattle.std.specs.List.{flat_map}
use Rattle.modem_c.specs.Texts.{line_text}
use Rattle.modem_c.proofs.outcomes.octets_of.Given as goal

abbrev pub invariant-loop-i : goal.invariant-loop-i
invariant-loop-i l = l.sum ≡ min (length (flat_map line_text (take l.i l.lines))) (2 ^ 64 - 1)
