-- All octets are read: lines, and what is left behind them.
use Rattle.at_text.specs.Runs.{kept_in}
use Rattle.at_text.specs.UnderWay.{window_of}
use Rattle.std.specs.Prelude.{ℕ, None, Option, take}
use Rattle.std.proofs.Common.{subst}
use Rattle.modem_core.specs.Reports.{Read, ReadsAll, reading_of}
use Rattle.modem_core.specs.Settling.{settled}
use Rattle.modem_core.proofs.lines.ReportedLines.{reads_rest}
use Rattle.modem_core.proofs.settling.read_all.Goals as goal

pub returns-clause-read : goal.returns-clause-read
returns-clause-read g c = λ owner.
    let first : Read = settled owner (kept_in c.args.line.now) (window_of c.args.reading.now.command.now c.args.under_way.now) None (g.P.LineRoom.heard c.args.lines.now) in
    let between : Read = settled owner (kept_in c.read_lines.new.line) (window_of c.args.reading.now.command.now c.read_lines.new.under_way) c.read_lines.new.answer (g.P.LineRoom.heard c.read_lines.new.lines) in
    let last : Read = record between { kept = kept_in c.keep_rest.new.line } in
    reads_rest (reading_of owner c.args.reading.now) first between last c.in_ok-count.count c.args.octets.now
    (subst (λ (answer : Option ℕ). ReadsAll (reading_of owner c.args.reading.now) (take c.in_ok-count.count c.args.octets.now) (settled owner (kept_in c.args.line.now) (window_of c.args.reading.now.command.now c.args.under_way.now) answer (g.P.LineRoom.heard c.args.lines.now)) between)
    c.requires (c.in_ok-count.ensures.read owner))
    (c.keep_rest.ensures (reading_of owner c.args.reading.now) between.window between.acts)
