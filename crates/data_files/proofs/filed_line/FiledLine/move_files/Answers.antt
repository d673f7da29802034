-- Another file had its turn.
use Rattle.std.specs.Prelude.{◌<◌, length}
use Rattle.std.proofs.Common.{ap, arith, subst, ◌∙◌}
use Rattle.modem_data_line.specs.DataLines.{DataLineState}
use Rattle.data_files.specs.Files.{FiledState}
use Rattle.data_files.proofs.Turns.{turns_more}
use Rattle.data_files.proofs.filed_line.FiledLine.move_files.Goals as goal

pub loop-place-preserved : goal.loop-place-preserved
loop-place-preserved g c =
    let e = c.move_file-moved.ensures in
    let there : c.loop-place.place < length c.loop-place.self.files =
    subst (λ (v : FiledState _ _). c.loop-place.place < length v.files) c.self.view_is (let short = c.loop-place-test.true in let same = c.len.ensures in omega (arith, short, same)) in
    let long = e.count in
    record {
      few = omega (arith, there, long);
      turns = turns_more g.L.SerialLine.seen g.P.SerialLine.seen c.loop-place.place _ c.loop-place.self c.move_file-moved.new.self
          c.loop-place.invariant.turns there e.moves e.same e.count;
      same = e.same ∙ ap (λ (x : FiledState _ _). record x { line = c.move_file-moved.new.self.line; files = c.move_file-moved.new.self.files }) c.loop-place.invariant.same;
      beside = e.beside ∙ ap (λ (x : DataLineState _). record x { relay = c.move_file-moved.new.self.line.relay }) c.loop-place.invariant.beside;
    }
