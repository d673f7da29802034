-- The turn of those so far came.
use Rattle.std.proofs.Common.{◌≡◌, length, ◌-◌, ◌≤◌}
use Rattle.data_files.proofs.Turns.{TurnsSoFar}
use Rattle.data_files.proofs.filed_line.FiledLine.move_files.Given as goal

abbrev pub invariant-loop-place : goal.invariant-loop-place
invariant-loop-place g l = record {
  few : l.place ≤ length l.self.files;
  turns : TurnsSoFar g.L.SerialLine.seen g.P.SerialLine.seen l.place l.fn.self l.self;
  same : l.self ≡ record l.fn.self { line = l.self.line; files = l.self.files };
  beside : l.self.line ≡ record l.fn.self.line { relay = l.self.line.relay };
}

abbrev pub decreases-loop-place : goal.decreases-loop-place
decreases-loop-place g l = length l.self.files - l.place
