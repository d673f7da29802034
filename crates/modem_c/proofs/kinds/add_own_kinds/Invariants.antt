-- Those of the set so far stand behind what there was.
use Rattle.std.specs.Prelude.{◌≡◌, ◌++◌, filter, map}
use Rattle.std.specs.List.{range_with_len}
use Rattle.at_text.specs.declared.unsolicited.UrcKind.{UrcKind}
use Rattle.modem_c.specs.Numbers.{is_own_in}
use Rattle.modem_c.proofs.kinds.add_own_kinds.Given as goal

abbrev pub invariant-loop-place : goal.invariant-loop-place
invariant-loop-place l = l.kinds.items ≡ l.initial.kinds.items ++ filter (is_own_in l.own) (map UrcKind.Own (range_with_len 0 l.place))
