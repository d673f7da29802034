-- A run is kept; of none nothing is read.
use Rattle.std.proofs.Common.{refl, length, sym, eqb-true}
use Rattle.std.proofs.lemmas.List.{nil_from_length}
use Rattle.at_text.specs.Runs.{kept_in}
use Rattle.at_text.proofs.lines.UnfinishedLines.{reads_on}
use Rattle.modem_core.specs.Reports.{Read}
use Rattle.modem_core.proofs.lines.ReportedLines.{keeps_run, keeps_none}
use Rattle.modem_core.proofs.reports.keep_rest.Goals as goal

pub returns-then-not-is_empty : goal.returns-then-not-is_empty
returns-then-not-is_empty c = λ r w acts.
    let old : Read = record { kept = kept_in c.args.line.now; window = w; acts = acts } in
    let new : Read = record old { kept = kept_in c.keep.new.self } in
    let k = c.keep.ensures in
    keeps_run r old new c.args.octets.now reads_on k.before k.none k.kept refl refl

pub returns-else-not-is_empty : goal.returns-else-not-is_empty
returns-else-not-is_empty c = λ r w acts.
    keeps_none r (record { kept = kept_in c.args.line.now; window = w; acts = acts }) c.args.octets.now (nil_from_length c.args.octets.now (eqb-true (length c.args.octets.now) 0 (sym c.if-not-is_empty.ensures)))
