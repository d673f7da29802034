use Rattle.std.proofs.Common.{rules}
use Rattle.mux_frame_c.proofs.FrameCounts.{fed_piece, counted_more, counted_all}
use Rattle.mux_frame_c.proofs.counts.count_octets.Goals as goal

pub loop-left-preserved : goal.loop-left-preserved
loop-left-preserved c =
    counted_more _ _ c.loop-left.left.now _ _ c.feed-count.result _ _ c.loop-left.deframer c.feed-count.new.self _
    c.loop-left.invariant
    c.feed-count.ensures.n1
    c.feed-count.ensures.past
    (fed_piece _ _ _ c.loop-left.left.now c.feed-count.ensures.count)
    c.split_at.ensures.back
    c.count_frames-counts.ensures.past
    c.count_frames-counts.ensures.all

pub returns-clause-ok : goal.returns-clause-ok
returns-clause-ok c = counted_all _ _ c.loop-left.left.now _ _ (search rules) c.loop-left.invariant (search rules)
