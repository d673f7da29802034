-- The kinds of one's own come one after the other.
use Rattle.std.specs.Prelude.{◌≡◌, ◌++◌}
use Rattle.modem_history.specs.Kinds.{standard_kinds}
use Rattle.modem_core.specs.DialectReplays.{own_kinds}
use Rattle.modem_core.proofs.replaying_by.every_kind.Given as goal

abbrev pub invariant-loop-number : goal.invariant-loop-number
invariant-loop-number l = l.kinds.items ≡ standard_kinds ++ own_kinds l.number
