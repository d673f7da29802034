use Rattle.std.specs.Prelude.{◌<◌, length, slice_set}
use Rattle.std.proofs.Common.{ap, arith, ◌∙◌}
use Rattle.std.proofs.lemmas.List.{length-set}
use Rattle.data_files.specs.Files.{FileState, again}
use Rattle.data_files.proofs.Again.{again_more}
use Rattle.data_files.proofs.filed_line.begin_again.Goals as goal

pub loop-place-preserved : goal.loop-place-preserved
loop-place-preserved g c =
    let look = g.P.SerialLine.seen in
    let there : c.loop-place.place < length c.args.files.now.items =
    let short = c.loop-place-test.true in let count = c.len.ensures in let long = c.loop-place.invariant.long in omega (arith, short, count, long) in
    record {
      few = omega (arith, there);
      long = length-set c.loop-place.files.items c.loop-place.place c.begin_again.new.self ∙ c.loop-place.invariant.long;
      again_are = again_more look c.loop-place.place c.args.files.now.items c.loop-place.files.items
          (slice_set c.loop-place.files.items c.loop-place.place c.begin_again.new.self) c.index_mut.result.now there c.loop-place.invariant.again_are
          (ap (λ (f : FileState _). slice_set c.loop-place.files.items c.loop-place.place f) (c.begin_again.ensures ∙ ap (λ (f : FileState _). again look f) c.index_mut.ensures.value));
    }
