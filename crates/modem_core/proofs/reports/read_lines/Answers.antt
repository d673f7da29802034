-- The lines are read one by one.
use Rattle.std.proofs.Common.{◌≡◌, ◌≤◌, ◌++◌, ◌+◌, ◌-◌, ◌∙◌, take, drop, length, ap, sym, subst, append-nil}
use Rattle.std.specs.Prelude.{List, Option, ℕ}
use Rattle.std.proofs.Math.Seq.{take-add}
use Rattle.at_text.specs.Runs.{kept_in}
use Rattle.at_text.specs.UnderWay.{window_of}
use Rattle.at_text.proofs.windows.PlacedLines.{grown_none}
use Rattle.modem_queues.specs.declared.asker.Asker.{Asker}
use Rattle.modem_core.specs.Reports.{Read, reading_of}
use Rattle.modem_core.specs.Settling.{settled}
use Rattle.modem_core.proofs.lines.ReportedLines.{reads_both, left_all, left_over}
use Rattle.modem_core.proofs.lines.WholeAnswers.{grown_on}
use Rattle.modem_core.proofs.reports.read_lines.Goals as goal

pub loop-place-init : goal.loop-place-init
loop-place-init g c =
    let window = window_of c.args.reading.now.command.now c.args.under_way.now in
    record {
      within = c.skipped-place.ensures.within;
      stands = c.requires;
      grows = grown_none window;
      back = λ was back. back;
      begins = λ was starts. starts;
      read = λ owner. let first : Read = settled owner (kept_in c.args.line.now) window c.args.answer.now (g.P.LineRoom.heard c.args.lines.now) in
          c.skipped-place.ensures.read (reading_of owner c.args.reading.now) first.window first.acts;
    }

pub returns-in_err-count-clause-grows : goal.returns-in_err-count-clause-grows
returns-in_err-count-clause-grows g c = grown_on (window_of c.args.reading.now.command.now c.args.under_way.now) (window_of c.args.reading.now.command.now c.loop-place.under_way) (window_of c.args.reading.now.command.now c.read_run.new.under_way) c.loop-place.invariant.grows c.read_run.ensures.grows

pub returns-then-count-eq0-clause-grows : goal.returns-then-count-eq0-clause-grows
returns-then-count-eq0-clause-grows g c = grown_on (window_of c.args.reading.now.command.now c.args.under_way.now) (window_of c.args.reading.now.command.now c.loop-place.under_way) (window_of c.args.reading.now.command.now c.read_run.new.under_way) c.loop-place.invariant.grows c.read_run.ensures.grows

pub returns-then-count-eq0-clause-read : goal.returns-then-count-eq0-clause-read
returns-then-count-eq0-clause-read g c = λ owner.
    let all = c.args.octets.now in
    let place = c.loop-place.place in
    let n = c.in_ok-count.count in
    let rest = take (length all - place) (drop place all) in
    let now : Read = settled owner (kept_in c.loop-place.line) (window_of c.args.reading.now.command.now c.loop-place.under_way) c.loop-place.answer (g.P.LineRoom.heard c.loop-place.lines) in
    let next : Read = settled owner (kept_in c.read_run.new.line) (window_of c.args.reading.now.command.now c.read_run.new.under_way) c.read_run.new.answer (g.P.LineRoom.heard c.read_run.new.lines) in
    let first : Read = settled owner (kept_in c.args.line.now) (window_of c.args.reading.now.command.now c.args.under_way.now) c.args.answer.now (g.P.LineRoom.heard c.args.lines.now) in
    let none : n ≡ 0 = c.if-count-eq0.true in
    reads_both (reading_of owner c.args.reading.now) first now next (take place all) (take n rest) (take place all)
    (sym (ap (λ (k : ℕ). take place all ++ take k rest) none ∙ append-nil (take place all))) (c.loop-place.invariant.read owner) (c.in_ok-count.ensures.read c.loop-place.invariant.stands owner)

pub loop-place-preserved : goal.loop-place-preserved
loop-place-preserved g c =
    let all = c.args.octets.now in
    let place = c.loop-place.place in
    let n = c.in_ok-count.count in
    let rest = take (length all - place) (drop place all) in
    let read_now : Option Asker → Read = λ owner. settled owner (kept_in c.loop-place.line) (window_of c.args.reading.now.command.now c.loop-place.under_way) c.loop-place.answer (g.P.LineRoom.heard c.loop-place.lines) in
    let read_next : Option Asker → Read = λ owner. settled owner (kept_in c.read_run.new.line) (window_of c.args.reading.now.command.now c.read_run.new.under_way) c.read_run.new.answer (g.P.LineRoom.heard c.read_run.new.lines) in
    let read_first : Option Asker → Read = λ owner. settled owner (kept_in c.args.line.now) (window_of c.args.reading.now.command.now c.args.under_way.now) c.args.answer.now (g.P.LineRoom.heard c.args.lines.now) in
    let went = c.in_ok-count.ensures in
    let held = c.loop-place.invariant in
    let same : rest ≡ drop place all = left_all place all in
    let few : n ≤ length (drop place all) = subst (λ (xs : List ℕ). n ≤ length xs) same went.within in
    record {
      within = (left_over n place all held.within few).0;
      stands = went.stands held.stands;
      grows = grown_on (window_of c.args.reading.now.command.now c.args.under_way.now) (window_of c.args.reading.now.command.now c.loop-place.under_way) (window_of c.args.reading.now.command.now c.read_run.new.under_way) held.grows c.read_run.ensures.grows;
      back = λ was back. went.back was (held.back was back);
      begins = λ was starts. went.begins was (held.begins was starts);
      read = λ owner.
          let now = read_now owner in let next = read_next owner in let first = read_first owner in
          reads_both (reading_of owner c.args.reading.now) first now next (take place all) (take n rest) (take (place + n) all)
          (take-add place n all ∙ ap (λ (xs : List ℕ). take place all ++ take n xs) (sym same)) (held.read owner) (went.read held.stands owner);
    }
