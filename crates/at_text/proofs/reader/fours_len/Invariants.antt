-- No line end stands in the octets so far.
use Rattle.std.proofs.Common.{◌≡◌, ◌-◌, take, false}
use Rattle.std.specs.Prelude.{◌≤◌, length}
use Rattle.std.specs.List.{list_any}
use Rattle.at_text.specs.Lines.{is_line_end}
use Rattle.at_text.proofs.reader.fours_len.Given as goal

abbrev pub invariant-loop-len : goal.invariant-loop-len
invariant-loop-len l = record {
  within : l.len ≤ length l.octets;
  none : list_any is_line_end (take l.len l.octets) ≡ false;
}

abbrev pub decreases-loop-len : goal.decreases-loop-len
decreases-loop-len l = length l.octets - l.len
