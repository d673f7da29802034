-- How long a bench goes on.
use Rattle.std.specs.Prelude.{◌==◌, nat_le, Option, None, Some, if◌then◌else◌}
use Rattle.modem_bench.specs.declared.cause.Cause.{Cause}
use Rattle.modem_bench.specs.declared.limit.Limit.{Limit}
use Rattle.modem_bench.specs.declared.limit.Limits.{Limits}

-- where no poll was made yet
abbrev pub fresh_limit : Limits → Limit
fresh_limit limits = record { left = limits.polls; quiet = 0; most = limits.still }

-- why no poll may be made then: none is left, or as many in a row moved nothing as may
abbrev pub cause_at : Limit → Option Cause
cause_at limit =
    if limit.left == 0 then Some Cause.UsedUp
    else if nat_le limit.most limit.quiet then Some Cause.Quiet
    else None
