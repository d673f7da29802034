-- Those of the set so far are chosen.
use Rattle.std.specs.Prelude.{◌≡◌, filter, take}
use Rattle.modem_c.specs.Numbers.{is_in}
use Rattle.modem_c.proofs.kinds.chosen.Given as goal

abbrev pub invariant-loop-kind : goal.invariant-loop-kind
invariant-loop-kind l = l.chosen.items ≡ filter (is_in l.kinds) (take l.kind-index l.all)
