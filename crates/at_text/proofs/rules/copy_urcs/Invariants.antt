use Rattle.std.proofs.Common.{◌≡◌, take}
use Rattle.at_text.proofs.rules.copy_urcs.Given as goal

-- what is copied is the beginning of what there is
abbrev pub invariant-loop-urc : goal.invariant-loop-urc
invariant-loop-urc l = l.copies.items ≡ take l.urc-index l.urc-items
