-- So many are silent.
use Rattle.std.specs.Prelude.{◌≡◌, take, length, replicate}
use Rattle.modem_show.specs.Talking.{silence}
use Rattle.modem_show.proofs.talks.reset_each.Given as goal

abbrev pub invariant-loop-talk : goal.invariant-loop-talk
invariant-loop-talk l = (take l.talk-index l.talk-items ≡ replicate l.talk-index silence) × (length l.talk-items ≡ length l.fn.talks.items)
