use Rattle.std.proofs.Common.{◌≡◌, take}
use Rattle.at_text.proofs.rules.copy_patterns.Given as goal

-- what is copied is the beginning of what there is
abbrev pub invariant-loop-pattern : goal.invariant-loop-pattern
invariant-loop-pattern l = l.copies.items ≡ take l.pattern-index l.pattern-items
