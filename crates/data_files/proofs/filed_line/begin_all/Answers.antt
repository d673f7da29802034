use Rattle.std.specs.Prelude.{ℕ}
use Rattle.std.proofs.Common.{ap, arith, ◌∙◌, subst}
use Rattle.modem_data.specs.declared.begin.Begin.{Begin}
use Rattle.modem_data.specs.declared.begin.Until.{Until}
use Rattle.modem_data.specs.Passing.{Began}
use Rattle.modem_data.specs.Hops.{Hops, Passed}
use Rattle.data_files.specs.Files.{FileState}
use Rattle.data_files.proofs.Begins.{begins_more}
use Rattle.data_files.proofs.filed_line.begin_all.Goals as goal

pub loop-place-preserved : goal.loop-place-preserved
loop-place-preserved g c =
    let f : FileState _ = c.index-files-place.result in
    let number = c.dlci.ensures ∙ ap (λ (x : FileState _). x.dlci) c.index-files-place.is in
    let by = c.how.ensures ∙ ap (λ (x : FileState _). x.how) c.index-files-place.is in
    let till = c.until.ensures ∙ ap (λ (x : FileState _). x.until) c.index-files-place.is in
    record {
      few = let there = c.loop-place-test.true in omega (arith, there);
      begun = begins_more g.L.SerialLine.seen c.args.files.now c.loop-place.place f c.args.line.now c.loop-place.line c.begin.new.self c.loop-place-test.true c.loop-place.invariant.begun
          (subst (λ (x : ℕ × Begin × Until). Hops c.loop-place.line.relay c.begin.new.self.relay (Passed (Began x.0 x.1 x.2))) (λ i. (number i, by i, till i)) c.in_ok-begin.ensures.began) c.begin.ensures.beside;
    }
