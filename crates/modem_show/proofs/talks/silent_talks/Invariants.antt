-- So many are made.
use Rattle.std.specs.Prelude.{◌≡◌, replicate}
use Rattle.modem_show.specs.Talking.{silence}
use Rattle.modem_show.proofs.talks.silent_talks.Given as goal

abbrev pub invariant-loop : goal.invariant-loop
invariant-loop l = l.talks.items ≡ replicate l.counter silence
