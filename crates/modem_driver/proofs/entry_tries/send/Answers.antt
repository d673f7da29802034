-- The octets go out step by step.
use Rattle.modem_driver.proofs.EntryTries.{asks_on_idle, asks_on_moved, on_idle, on_moved, partly_sent}
use Rattle.modem_driver.proofs.entry_tries.send.Goals.{in-Moved, in-Idle}
use Rattle.modem_driver.proofs.entry_tries.send.Goals as goal
use Rattle.std.proofs.Common.{◌∙◌}

pub loop-preserved : goal.loop-preserved
loop-preserved g c =
    elim c.match-step-2.branch [
      | in-Moved w ↦ record {
        asking = on_moved _ _ _ _ _ _ _ _ _ _ c.in-Ok.step w.in-Moved.is c.loop.invariant.asking c.in-Ok.ensures.goes c.in-Ok.ensures.text c.in-Ok.ensures.sound c.in-Ok.ensures.counted c.goes_on.ensures.counted;
        ready = c.goes_on.ensures.ready c.if-not-goes_on.false;
        asks = asks_on_moved _ _ _ _ _ _ _ _ _ _ c.in-Ok.step _ w.in-Moved.is w.went-is c.in-Ok.ensures.moves c.in-Ok.ensures.counted c.goes_on.ensures.counted c.goes_on.ensures.idle c.loop.invariant.asks;
        waits = c.goes_on.ensures.waits ∙ c.loop.invariant.waits;
      }
      | in-Idle w ↦ record {
        asking = on_idle _ _ _ _ _ _ _ _ _ _ c.in-Ok.step w.in-Idle.is c.loop.invariant.asking c.in-Ok.ensures.goes c.in-Ok.ensures.text c.in-Ok.ensures.sound c.in-Ok.ensures.counted c.goes_on.ensures.counted;
        ready = c.goes_on.ensures.ready c.if-not-goes_on.false;
        asks = asks_on_idle _ _ _ _ _ _ _ _ _ _ c.in-Ok.step _ w.in-Idle.is w.went-is c.in-Ok.ensures.moves c.in-Ok.ensures.counted c.goes_on.ensures.counted c.goes_on.ensures.idle c.loop.invariant.asks;
        waits = c.goes_on.ensures.waits ∙ c.loop.invariant.waits;
      }
    ]

pub returns-then-not-goes_on-clause-begun : goal.returns-then-not-goes_on-clause-begun
returns-then-not-goes_on-clause-begun g c is =
    elim c.match-step-2.branch [
      | in-Moved w ↦ partly_sent _ _ _ _ _ _ _ (on_moved _ _ _ _ _ _ _ _ _ _ c.in-Ok.step w.in-Moved.is c.loop.invariant.asking c.in-Ok.ensures.goes c.in-Ok.ensures.text c.in-Ok.ensures.sound c.in-Ok.ensures.counted c.goes_on.ensures.counted)
      | in-Idle w ↦ partly_sent _ _ _ _ _ _ _ (on_idle _ _ _ _ _ _ _ _ _ _ c.in-Ok.step w.in-Idle.is c.loop.invariant.asking c.in-Ok.ensures.goes c.in-Ok.ensures.text c.in-Ok.ensures.sound c.in-Ok.ensures.counted c.goes_on.ensures.counted)
    ]

pub returns-then-not-goes_on-clause-asks : goal.returns-then-not-goes_on-clause-asks
returns-then-not-goes_on-clause-asks g c other =
    elim c.match-step-2.branch [
      | in-Moved w ↦ asks_on_moved _ _ _ _ _ _ _ _ _ _ c.in-Ok.step _ w.in-Moved.is w.went-is c.in-Ok.ensures.moves c.in-Ok.ensures.counted c.goes_on.ensures.counted c.goes_on.ensures.idle c.loop.invariant.asks
      | in-Idle w ↦ asks_on_idle _ _ _ _ _ _ _ _ _ _ c.in-Ok.step _ w.in-Idle.is w.went-is c.in-Ok.ensures.moves c.in-Ok.ensures.counted c.goes_on.ensures.counted c.goes_on.ensures.idle c.loop.invariant.asks
    ]

pub returns-clause-begun : goal.returns-clause-begun
returns-clause-begun g c is = partly_sent _ _ _ _ _ _ _ c.loop.invariant.asking
