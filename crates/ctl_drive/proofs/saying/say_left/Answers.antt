-- Nothing is left, or some are.
use Rattle.std.proofs.Common.{rules, ◌≡◌, ◌==◌, true, false}
use Rattle.ctl_drive.proofs.Said.{left_none, left_some}
use Rattle.ctl_drive.proofs.saying.say_left.Goals as goal

pub returns-then-requests-eq0 : goal.returns-then-requests-eq0
returns-then-requests-eq0 g c =
    let none : (c.args.requests == 0) ≡ true = search rules in
    left_none _ c.args.requests none

pub returns : goal.returns
returns g c =
    let some : (c.args.requests == 0) ≡ false = search rules in
    left_some _ _ c.args.requests some (search rules)
