-- Each file had its turn, and then another.
use Rattle.data_files.proofs.Turns.{turns_then}
use Rattle.file_threads.proofs.ending.write_out.Goals as goal

pub loop-preserved : goal.loop-preserved
loop-preserved g c =
    turns_then g.L.SerialLine.seen g.P.SerialLine.seen c.args.line.now c.loop.line c.move_all-in-loop.new.self.files
    c.loop.invariant c.move_all-in-loop.ensures.turns
