-- The octets so far call for nothing.
use Rattle.std.proofs.Common.{◌-◌}
use Rattle.std.specs.Prelude.{◌≤◌, List, Option, take, length}
use Rattle.at_text.specs.Runs.{kept_in}
use Rattle.at_text.specs.OpenWindow.{OpenWindow}
use Rattle.modem_history.specs.Acts.{Act}
use Rattle.modem_core.specs.Reports.{ReadingView, ReadsAll}
use Rattle.modem_core.proofs.reports.skipped.Given as goal

abbrev pub invariant-loop-count : goal.invariant-loop-count
invariant-loop-count l = record {
  within : l.count ≤ length l.octets;
  read : (r : ReadingView) (w : Option OpenWindow) (acts : List Act)
      → ReadsAll r (take l.count l.octets) (record { kept = kept_in l.line; window = w; acts = acts }) (record { kept = kept_in l.line; window = w; acts = acts });
}

abbrev pub decreases-loop-count : goal.decreases-loop-count
decreases-loop-count l = length l.octets - l.count
