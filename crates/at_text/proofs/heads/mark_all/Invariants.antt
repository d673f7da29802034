use Rattle.std.proofs.Common.{◌≡◌, ◌<◌, ℕ, length}
use Rattle.at_text.specs.Heads.{span_at, IsIn}
use Rattle.at_text.proofs.dialects.Heading.{Kept}
use Rattle.at_text.proofs.heads.mark_all.Given as goal

-- the spans keep their places, and those so far have the new one
abbrev pub invariant-loop-span : goal.invariant-loop-span
invariant-loop-span l = (length l.spans ≡ 64) × Kept l.fn.spans l.spans × ((k : ℕ) → k < l.span-index → IsIn l.fn.place (span_at l.spans k))
