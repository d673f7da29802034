-- Each file had its turn.
use Rattle.data_files.specs.Moves.{HadTurns}
use Rattle.file_threads.proofs.ending.write_out.Given as goal

abbrev pub invariant-loop : goal.invariant-loop
invariant-loop g l =
    HadTurns g.L.SerialLine.seen g.P.SerialLine.seen l.fn.line l.line.files
