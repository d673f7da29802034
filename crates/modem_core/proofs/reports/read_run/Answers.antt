-- A line is read, and what calls for nothing behind it.
use Rattle.std.proofs.Common.{◌≡◌, ◌<◌, ◌++◌, ◌∷◌, [], ◌+◌, take, length, add-one, ap, sym, ◌∙◌, refl, arith}
use Rattle.std.specs.Prelude.{slice_index}
use Rattle.std.proofs.Math.Seq.{take-add, take-suc}
use Rattle.at_text.specs.Runs.{kept_in}
use Rattle.at_text.specs.UnderWay.{window_of}
use Rattle.at_text.proofs.windows.PlacedLines.{grown_none}
use Rattle.modem_core.specs.Reports.{Read, reading_of}
use Rattle.modem_core.specs.Settling.{settled}
use Rattle.modem_core.proofs.lines.ReportedLines.{keeps_none, reads_both, reads_same}
use Rattle.modem_core.proofs.reports.read_run.Goals as goal

pub returns-then-end-octets-clause-read : goal.returns-then-end-octets-clause-read
returns-then-end-octets-clause-read g c = λ u owner.
    keeps_none (reading_of owner c.args.reading.now) (settled owner (kept_in c.args.line.now) (window_of c.args.reading.now.command.now c.args.under_way.now) c.args.answer.now (g.P.LineRoom.heard c.args.lines.now)) [] refl

pub returns-then-end-octets-clause-grows : goal.returns-then-end-octets-clause-grows
returns-then-end-octets-clause-grows g c = grown_none (window_of c.args.reading.now.command.now c.args.under_way.now)

pub returns-clause-read : goal.returns-clause-read
returns-clause-read g c = λ u owner.
    let all = c.args.octets.now in
    let end = c.run_len-end.result in
    let old : Read = settled owner (kept_in c.args.line.now) (window_of c.args.reading.now.command.now c.args.under_way.now) c.args.answer.now (g.P.LineRoom.heard c.args.lines.now) in
    let new : Read = settled owner (kept_in c.read_line.new.line) (window_of c.args.reading.now.command.now c.read_line.new.under_way) c.read_line.new.answer (g.P.LineRoom.heard c.read_line.new.lines) in
    let apart = c.if-end-octets.false in
    let within = c.run_len-end.ensures.within in
    let inside : end < length all = grind (arith, within, apart) in
    let k = slice_index all end in
    let more : take (end + 1) all ≡ take end all ++ k ∷ [] = rw add-one (take-suc all end 0 inside) in
    let count = end + 1 in
    let read = reads_same (reading_of owner c.args.reading.now) old new (take end all ++ k ∷ []) (take count all) more (c.in_ok-read_line.ensures.read u owner k (c.run_len-end.ensures.end inside)) in
    let n = c.skipped.result in
    let left = c.split_at.result.1.now in
    let rest : take (count + n) all ≡ take count all ++ take n left = take-add count n all ∙ ap (λ xs. take count all ++ take n xs) (sym c.split_at.ensures.back) in
    reads_both (reading_of owner c.args.reading.now) old new new (take count all) (take n left) (take (count + n) all) rest read
    (c.skipped.ensures.read (reading_of owner c.args.reading.now) new.window new.acts)
