-- Each file had its turn, and only what may change has.
use Rattle.std.proofs.Common.{◌≡◌}
use Rattle.data_files.specs.Moves.{HadTurns}
use Rattle.data_files.proofs.filed_line.FiledLine.move_all.Given as goal

abbrev pub invariant-loop : goal.invariant-loop
invariant-loop g l = record {
  turns : HadTurns g.L.SerialLine.seen g.P.SerialLine.seen l.fn.self l.self.files;
  same : l.self ≡ record l.fn.self { line = l.self.line; files = l.self.files };
  beside : l.self.line ≡ record l.fn.self.line { line = l.self.line.line; relay = l.self.line.relay; unfed = l.self.line.unfed; is_lost = l.self.line.is_lost };
}
