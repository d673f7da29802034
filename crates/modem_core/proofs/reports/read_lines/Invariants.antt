-- The octets so far are read.
use Rattle.std.proofs.Common.{◌-◌}
use Rattle.std.specs.Prelude.{◌≤◌, take, length, List, Option}
use Rattle.modem_queues.specs.declared.asker.Asker.{Asker}
use Rattle.at_text.specs.UnderWay.{window_of}
use Rattle.at_text.specs.InPlace.{Grows}
use Rattle.at_text.specs.Runs.{LineRun, kept_in, LeadsBack}
use Rattle.modem_history.specs.Acts.{Act as Happening}
use Rattle.modem_core.specs.Reports.{ReadsAll, reading_of}
use Rattle.modem_core.specs.Settling.{settled, Stands, StartsWith}
use Rattle.modem_core.proofs.reports.read_lines.Given as goal

abbrev pub invariant-loop-place : goal.invariant-loop-place
invariant-loop-place g l = record {
  within : l.place ≤ length l.octets;
  stands : Stands l.answer (window_of l.reading.command.now l.under_way) (g.P.LineRoom.heard l.lines);
  grows : Grows (window_of l.reading.command.now l.initial.under_way) (window_of l.reading.command.now l.under_way);
  back : (was : LineRun) → LeadsBack was l.initial.line → LeadsBack was l.line;
  begins : (was : List Happening) → StartsWith was (g.P.LineRoom.heard l.initial.lines) → StartsWith was (g.P.LineRoom.heard l.lines);
  read : (owner : Option Asker) → ReadsAll (reading_of owner l.reading) (take l.place l.octets)
      (settled owner (kept_in l.initial.line) (window_of l.reading.command.now l.initial.under_way) l.initial.answer (g.P.LineRoom.heard l.initial.lines))
      (settled owner (kept_in l.line) (window_of l.reading.command.now l.under_way) l.answer (g.P.LineRoom.heard l.lines));
}

abbrev pub decreases-loop-place : goal.decreases-loop-place
decreases-loop-place g l = length l.octets - l.place
