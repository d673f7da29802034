-- One round after the other.
use Rattle.std.specs.Prelude.{◌<◌}
use Rattle.std.specs.Duration.{as_nanos}
use Rattle.std.specs.declared.time.Duration.{Duration}
use Rattle.std.proofs.Common.{ap, refl, subst, sym, ◌∙◌}
use Rattle.ctl_drive.proofs.Asks.{asks_none, asks_then, stops_if, stops_then}
use Rattle.ctl_drive.proofs.Drives.{drives_none, drives_then, drives_with}
use Rattle.ctl_drive.proofs.Lines.{goes_then, stays}
use Rattle.ctl_drive.proofs.driving.drive_on.Goals as goal

pub loop-init : goal.loop-init
loop-init g c = record { drives = drives_none g.L.SerialLine.seen (as_nanos c.args.ticks.now.period) c.args.session.now c.args.ticks.now.last; goes = stays _ c.args.users.now; asks = asks_none c.args.plan.now c.args.users.now.caller.submitted (g.E.Write.contents c.args.faults.now); timed = refl }

pub returns-in_err-round-clause-drives : goal.returns-in_err-round-clause-drives
returns-in_err-round-clause-drives g c = drives_then g.L.SerialLine.seen (as_nanos c.args.ticks.now.period) _ _ _ _ _ _ c.loop.invariant.drives
    (drives_with g.L.SerialLine.seen (as_nanos c.args.ticks.now.period) (as_nanos c.loop.ticks.period) _ _ _ _ (ap as_nanos c.loop.invariant.timed) c.round.ensures.drives)

pub returns-in_err-round-clause-stops : goal.returns-in_err-round-clause-stops
returns-in_err-round-clause-stops g c = stops_if _ _ _ _ _ (stops_then _ _ _ _ _ _ _ c.loop.invariant.asks c.in_err-round.ensures.stops)

pub returns-in-Ends-clause-drives : goal.returns-in-Ends-clause-drives
returns-in-Ends-clause-drives g c = drives_then g.L.SerialLine.seen (as_nanos c.args.ticks.now.period) _ _ _ _ _ _ c.loop.invariant.drives
    (drives_with g.L.SerialLine.seen (as_nanos c.args.ticks.now.period) (as_nanos c.loop.ticks.period) _ _ _ _ (ap as_nanos c.loop.invariant.timed) c.round.ensures.drives)

pub returns-in-Ends-clause-goes : goal.returns-in-Ends-clause-goes
returns-in-Ends-clause-goes g c = goes_then _ _ _ _ _ _ c.loop.invariant.goes c.in_ok-round.ensures.goes

pub returns-in-Ends-clause-asks : goal.returns-in-Ends-clause-asks
returns-in-Ends-clause-asks g c = asks_then _ _ _ _ _ _ _ _ _ c.loop.invariant.asks c.in_ok-round.ensures.asks

pub loop-preserved-in-More : goal.loop-preserved-in-More
loop-preserved-in-More g c = record {
  drives = drives_then g.L.SerialLine.seen (as_nanos c.args.ticks.now.period) _ _ _ _ _ _ c.loop.invariant.drives
      (drives_with g.L.SerialLine.seen (as_nanos c.args.ticks.now.period) (as_nanos c.loop.ticks.period) _ _ _ _ (ap as_nanos c.loop.invariant.timed) c.round.ensures.drives);
  goes = goes_then _ _ _ _ _ _ c.loop.invariant.goes c.in_ok-round.ensures.goes;
  asks = asks_then _ _ _ _ _ _ _ _ _ c.loop.invariant.asks c.in_ok-round.ensures.asks;
  timed = c.round.ensures.period ∙ c.loop.invariant.timed;
}

pub loop-preserved : goal.loop-preserved
loop-preserved g c = record {
  drives = drives_then g.L.SerialLine.seen (as_nanos c.args.ticks.now.period) _ _ _ _ _ _ c.loop.invariant.drives
      (drives_with g.L.SerialLine.seen (as_nanos c.args.ticks.now.period) (as_nanos c.loop.ticks.period) _ _ _ _ (ap as_nanos c.loop.invariant.timed) c.round.ensures.drives);
  goes = goes_then _ _ _ _ _ _ c.loop.invariant.goes c.in_ok-round.ensures.goes;
  asks = asks_then _ _ _ _ _ _ _ _ _ c.loop.invariant.asks c.in_ok-round.ensures.asks;
  timed = c.round.ensures.period ∙ c.loop.invariant.timed;
}

pub round-requires : goal.round-requires
round-requires g c = subst (λ (t : Duration). 0 < as_nanos t) (sym c.loop.invariant.timed) c.requires
