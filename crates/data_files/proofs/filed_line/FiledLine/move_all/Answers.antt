-- Each file had its turn, and then another.
use Rattle.std.proofs.Common.{ap, ◌∙◌}
use Rattle.modem_data_line.specs.DataLines.{DataLineState}
use Rattle.data_files.specs.Files.{FiledState}
use Rattle.data_files.proofs.Turns.{turns_then}
use Rattle.data_files.proofs.filed_line.FiledLine.move_all.Goals as goal

pub loop-preserved : goal.loop-preserved
loop-preserved g c =
    let e = c.round-in-loop.ensures in
    let now = c.round-in-loop.new.self in
    record {
      turns = turns_then g.L.SerialLine.seen g.P.SerialLine.seen c.args.self.now c.loop.self now.files
          c.loop.invariant.turns e.turns;
      same = e.same ∙ ap (λ (x : FiledState _ _). record x { line = now.line; files = now.files }) c.loop.invariant.same;
      beside = e.beside
          ∙ ap (λ (x : DataLineState _). record x { line = now.line.line; relay = now.line.relay; unfed = now.line.unfed; is_lost = now.line.is_lost }) c.loop.invariant.beside;
    }
