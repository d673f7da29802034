-- The octets so far were taken.
use Rattle.std.specs.Prelude.{◌≡◌, take}
use Rattle.ctl_sim.specs.Plain.{plain_after}
use Rattle.ctl_sim.proofs.plain.PlainMode.feed.Given as goal

abbrev pub invariant-loop-count : goal.invariant-loop-count
invariant-loop-count l = l.self ≡ plain_after l.initial.self (take l.count l.octets)
