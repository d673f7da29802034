-- A bench stopped badly.
use Rattle.std.specs.Prelude.{ℕ}
use Rattle.std.proofs.Common.{subst}
use Rattle.ctl_run.specs.Stopping.{IsBenchStop}
use Rattle.modemctl.specs.Refusals.{StopsBadly}
use Rattle.modemctl.proofs.Refused.{stops_two}
use Rattle.modemctl.proofs.words.benches.bench_plain.Goals as goal

pub returns-clause-refused : goal.returns-clause-refused
returns-clause-refused g c two =
    subst
    (λ (cut : ℕ). StopsBadly c.args.explained (IsBenchStop c.args.numbers.callers cut (g.I.Read.remaining c.args.input.now)) (g.E.Write.contents c.args.faults.now) (g.E.Write.contents c.bench_run_explained.new.faults))
    c.from-cut.ensures
    (stops_two _ _ _ _ _ _ _ _ _ _ c.bench_run_explained.ensures.stopped two)
