-- It was said of one more, where its thread isn't through.
use Rattle.std.proofs.Common.{ap, arith}
use Rattle.file_threads.proofs.FileEnds.{full_more, full_same}
use Rattle.file_threads.proofs.full.say_full.Goals.{then-not-are_through, else-not-are_through}
use Rattle.file_threads.proofs.full.say_full.Goals as goal

pub loop-place-preserved : goal.loop-place-preserved
loop-place-preserved g c = record {
  few = let more = c.loop-place-test.true in omega (arith, more);
  says =
      elim c.if-not-are_through.branch [
        | then-not-are_through w ↦ full_more _ _ (g.E.Write.contents c.args.faults.now) (g.E.Write.contents c.loop-place.faults) _ _ _ c.loop-place.invariant.says w.say_of.ensures w.all-is (ap g.E.Write.contents w.faults-is)
        | else-not-are_through w ↦ full_same _ _ (g.E.Write.contents c.args.faults.now) (g.E.Write.contents c.loop-place.faults) _ c.loop-place.invariant.says w.all-is (ap g.E.Write.contents w.faults-is)
      ];
}
