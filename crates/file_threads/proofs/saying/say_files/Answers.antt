-- It was said of one more.
use Rattle.std.proofs.Common.{arith, subst}
use Rattle.data_files.specs.Files.{FileState}
use Rattle.file_threads.specs.FileEnds.{SaysEnd}
use Rattle.file_threads.proofs.FileEnds.{ends_more, ends_of_none}
use Rattle.file_threads.proofs.saying.say_files.Goals as goal

pub loop-place-init : goal.loop-place-init
loop-place-init g c = record { few = omega arith; said = ends_of_none c.args.line.now.line.relay.pipes (g.E.Write.contents c.args.faults.now) c.files-files.result.now }

pub loop-place-preserved : goal.loop-place-preserved
loop-place-preserved g c = record {
  few = let more = c.loop-place-test.true in omega (arith, more);
  said = ends_more c.args.line.now.line.relay.pipes (g.E.Write.contents c.args.faults.now) (g.E.Write.contents c.loop-place.faults) (g.E.Write.contents c.say_file.new.faults) c.files-files.result.now c.loop-place.place c.index-files-place.result c.loop-place-test.true
      c.loop-place.invariant.said
      (subst (λ (f : FileState _). SaysEnd c.args.line.now.line.relay.pipes f (g.E.Write.contents c.loop-place.faults) (g.E.Write.contents c.say_file.new.faults)) c.index-files-place.is c.say_file.ensures);
}
