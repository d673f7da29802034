-- What is asked and submitted in a step.
use Rattle.ctl_drive.proofs.Asks.{asks_then, stops_here, stops_if}
use Rattle.ctl_drive.proofs.Lines.{goes_then}
use Rattle.ctl_drive.proofs.NextTurns.{moved_on}
use Rattle.ctl_drive.proofs.plan.Plan.go_on.Goals as goal

pub returns-in_err-asked-clause-stops : goal.returns-in_err-asked-clause-stops
returns-in_err-asked-clause-stops g c =
    stops_if _ _ _ _ _ (stops_here _ _ _ _ _ _ (asks_then _ _ _ _ _ _ _ _ _ c.loop-step.invariant.asks (c.in_ok-read.ensures.asks _)))

pub returns-in_err-submitted-clause-stops : goal.returns-in_err-submitted-clause-stops
returns-in_err-submitted-clause-stops g c =
    stops_if _ _ _ _ _ (stops_here _ _ _ _ _ _ (asks_then _ _ _ _ _ _ _ _ _ c.loop-step.invariant.asks (asks_then _ _ _ _ _ _ _ _ _ (c.in_ok-read.ensures.asks _) (c.in_ok-asked.ensures.asks _))))

pub returns-then-not-submitted-clause-goes : goal.returns-then-not-submitted-clause-goes
returns-then-not-submitted-clause-goes g c = λ out. goes_then out out out _ _ _ (c.loop-step.invariant.goes out) (goes_then out out out _ _ _ (c.in_ok-asked.ensures.goes out) (c.in_ok-submitted.ensures.goes out))

pub returns-then-not-submitted-clause-asks : goal.returns-then-not-submitted-clause-asks
returns-then-not-submitted-clause-asks g c =
    asks_then _ _ _ _ _ _ _ _ _ c.loop-step.invariant.asks (asks_then _ _ _ _ _ _ _ _ _ (c.in_ok-read.ensures.asks _) (asks_then _ _ _ _ _ _ _ _ _ (c.in_ok-asked.ensures.asks _) (c.in_ok-submitted.ensures.asks _)))

pub loop-step-preserved : goal.loop-step-preserved
loop-step-preserved g c = record {
  goes = λ out. goes_then out out out _ _ _ (c.loop-step.invariant.goes out) (goes_then out out out _ _ _ (c.in_ok-asked.ensures.goes out) (c.in_ok-submitted.ensures.goes out));
  asks =
      asks_then _ _ _ _ _ _ _ _ _ c.loop-step.invariant.asks (asks_then _ _ _ _ _ _ _ _ _ (c.in_ok-read.ensures.asks _) (asks_then _ _ _ _ _ _ _ _ _ (c.in_ok-asked.ensures.asks _) (c.in_ok-submitted.ensures.asks _)));
  moved = moved_on _ c.loop-step.step c.loop-step.self c.read_on.new.self c.loop-step.users _ _ _ _ _ c.else-not-read.either c.loop-step.invariant.moved c.in_ok-read.ensures.count c.in_ok-asked.ensures.count c.in_ok-submitted.ensures.count;
}
