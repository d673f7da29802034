-- The lines so far stand at the front of the room.
use Rattle.std.specs.Prelude.{◌≡◌, ◌++◌, length, drop, take}
use Rattle.std.specs.List.{flat_map}
use Rattle.modem_c.specs.Texts.{line_text}
use Rattle.modem_c.proofs.outcomes.put_lines.Given as goal

abbrev pub invariant-loop-i : goal.invariant-loop-i
invariant-loop-i l = record {
  place : l.place ≡ length (flat_map line_text (take l.i l.lines));
  room : l.room ≡ flat_map line_text (take l.i l.lines) ++ drop l.place l.initial.room;
}
