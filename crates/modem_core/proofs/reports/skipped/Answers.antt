-- One octet more is passed; of no octets nothing is read.
use Rattle.std.proofs.Common.{◌≡◌, ◌++◌, ◌+◌, ◌≤◌, ◌-◌, [], refl, take, drop, length, sym, subst, arith, ◌∙◌, ap}
use Rattle.std.specs.Prelude.{◌<◌, List, ℕ}
use Rattle.std.proofs.Math.Seq.{take-add}
use Rattle.at_text.specs.Runs.{kept_in}
use Rattle.at_text.proofs.lines.UnfinishedLines.{reads_on}
use Rattle.modem_core.specs.Reports.{Read}
use Rattle.modem_core.proofs.lines.ReportedLines.{keeps_run, keeps_none, reads_both, left_all, left_over}
use Rattle.modem_core.proofs.reports.skipped.Goals as goal

pub loop-count-init : goal.loop-count-init
loop-count-init c = record {
  within = omega arith;
  read = λ r w acts. keeps_none r (record { kept = kept_in c.args.line.now; window = w; acts = acts }) [] refl;
}

pub loop-count-preserved : goal.loop-count-preserved
loop-count-preserved c =
    let all = c.args.octets.now in
    let n = c.loop-count.count in
    let rest = take (length all - n) (drop n all) in
    let e = c.skips.ensures in
    let is = c.loop-count-test.true in
    let same : rest ≡ drop n all = left_all n all in
    let some : 0 < length rest = e.some is in
    let few : 1 ≤ length (drop n all) = subst (λ (xs : List ℕ). 1 ≤ length xs) same some in
    record {
      within = (left_over 1 n all c.loop-count.invariant.within few).0;
      read = λ r w acts.
          let v : Read = record { kept = kept_in c.args.line.now; window = w; acts = acts } in
          let joined : take (n + 1) all ≡ take n all ++ take 1 rest = take-add n 1 all ∙ ap (λ (xs : List ℕ). take n all ++ take 1 xs) (sym same) in
          reads_both r v v v (take n all) (take 1 rest) (take (n + 1) all) joined (c.loop-count.invariant.read r w acts)
          (keeps_run r v v (take 1 rest) reads_on (e.before is) (e.none is) (e.kept is) refl refl);
    }
