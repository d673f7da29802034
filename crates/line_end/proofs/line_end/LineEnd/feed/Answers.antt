-- The octets that waited are taken in by the deframer.
use Rattle.std.proofs.Common.{subst, take, List, ℕ}
use Rattle.mux_frame.specs.Deframing.{TakesIn}
use Rattle.line_end.specs.LineEnds.{LineEnd}
use Rattle.line_end.proofs.line_end.LineEnd.feed.Goals as goal

pub returns-clause-past : goal.returns-clause-past
returns-clause-past c =
    let n = c.feed-count.result in
    let fed = c.feed-count.new.self in
    subst (λ (e : LineEnd). TakesIn e.deframer (take n e.unfed) fed) c.self.view_is
    (subst (λ (xs : List ℕ). TakesIn c.self.inside.deframer (take n xs) fed) c.as_slice.ensures c.feed-count.ensures.past)
