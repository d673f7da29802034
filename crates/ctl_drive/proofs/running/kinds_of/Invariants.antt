-- The kinds of one's own come one after the other, each for a rule.
use Rattle.std.specs.Prelude.{◌≡◌, ◌≤◌, ◌++◌, length}
use Rattle.modem_history.specs.Kinds.{standard_kinds}
use Rattle.modem_core.specs.DialectReplays.{own_kinds}
use Rattle.ctl_drive.proofs.running.kinds_of.Given as goal

abbrev pub invariant-loop-number : goal.invariant-loop-number
invariant-loop-number l =
    (l.kinds.items ≡ standard_kinds ++ own_kinds l.number) × (l.number ≤ length l.initial.dialect.urcs)
