-- None of the numbers before this one wants it.
use Rattle.std.specs.Prelude.{◌≡◌, ◌<◌, ◌≤◌, ℕ, false}
use Rattle.ctl_drive.specs.Turns.{wants}
use Rattle.ctl_drive.proofs.turns.find_in.Given as goal

abbrev pub invariant-loop-number : goal.invariant-loop-number
invariant-loop-number l = (e : ℕ) → l.initial.from ≤ e → e < l.number → wants l.initial.want l.initial.queues l.initial.users e ≡ false
