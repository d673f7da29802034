-- A text is asked step by step.
use Rattle.std.proofs.Common.{arith, ◌∙◌}
use Rattle.modem_driver.proofs.EntryTries.{answered, asks_answered, asks_at_most, asks_on_idle, asks_on_moved, on_idle, on_moved, unanswered}
use Rattle.modem_driver.proofs.entry_tries.ask.Goals.{in-Moved, in-Idle}
use Rattle.modem_driver.proofs.entry_tries.ask.Goals as goal

pub returns-in-Answered-clause-answered : goal.returns-in-Answered-clause-answered
returns-in-Answered-clause-answered g c =
    answered _ _ _ _ _ _ _ _ _ c.in-Ok.step c.in-Answered.code c.in-Answered.is c.loop.invariant.asking c.in-Ok.ensures.goes c.in-Ok.ensures.text

pub returns-in-Answered-clause-asks : goal.returns-in-Answered-clause-asks
returns-in-Answered-clause-asks g c other =
    asks_answered 0 _ _ _ _ _ _ _ c.in-Ok.step c.in-Answered.code c.in-Answered.is c.in-Ok.ensures.moves c.in-Ok.ensures.counted c.loop.invariant.asks

pub loop-preserved : goal.loop-preserved
loop-preserved g c =
    elim c.match-step-2.branch [
      | in-Moved w ↦ record {
        asking = on_moved _ _ _ _ _ _ _ _ _ _ c.in-Ok.step w.in-Moved.is c.loop.invariant.asking c.in-Ok.ensures.goes c.in-Ok.ensures.text c.in-Ok.ensures.sound c.in-Ok.ensures.counted c.goes_on.ensures.counted;
        ready = c.goes_on.ensures.ready c.if-not-goes_on.false;
        asks = asks_on_moved _ _ _ _ _ _ _ _ _ _ c.in-Ok.step _ w.in-Moved.is w.moved-is c.in-Ok.ensures.moves c.in-Ok.ensures.counted c.goes_on.ensures.counted c.goes_on.ensures.idle c.loop.invariant.asks;
        waits = c.goes_on.ensures.waits ∙ c.loop.invariant.waits;
      }
      | in-Idle w ↦ record {
        asking = on_idle _ _ _ _ _ _ _ _ _ _ c.in-Ok.step w.in-Idle.is c.loop.invariant.asking c.in-Ok.ensures.goes c.in-Ok.ensures.text c.in-Ok.ensures.sound c.in-Ok.ensures.counted c.goes_on.ensures.counted;
        ready = c.goes_on.ensures.ready c.if-not-goes_on.false;
        asks = asks_on_idle _ _ _ _ _ _ _ _ _ _ c.in-Ok.step _ w.in-Idle.is w.moved-is c.in-Ok.ensures.moves c.in-Ok.ensures.counted c.goes_on.ensures.counted c.goes_on.ensures.idle c.loop.invariant.asks;
        waits = c.goes_on.ensures.waits ∙ c.loop.invariant.waits;
      }
    ]

pub returns-then-not-goes_on-clause-unanswered : goal.returns-then-not-goes_on-clause-unanswered
returns-then-not-goes_on-clause-unanswered g c is =
    elim c.match-step-2.branch [
      | in-Moved w ↦ unanswered _ _ _ _ _ _ _ (on_moved _ _ _ _ _ _ _ _ _ _ c.in-Ok.step w.in-Moved.is c.loop.invariant.asking c.in-Ok.ensures.goes c.in-Ok.ensures.text c.in-Ok.ensures.sound c.in-Ok.ensures.counted c.goes_on.ensures.counted)
      | in-Idle w ↦ unanswered _ _ _ _ _ _ _ (on_idle _ _ _ _ _ _ _ _ _ _ c.in-Ok.step w.in-Idle.is c.loop.invariant.asking c.in-Ok.ensures.goes c.in-Ok.ensures.text c.in-Ok.ensures.sound c.in-Ok.ensures.counted c.goes_on.ensures.counted)
    ]

pub returns-then-not-goes_on-clause-asks : goal.returns-then-not-goes_on-clause-asks
returns-then-not-goes_on-clause-asks g c other =
    asks_at_most 0 1 _ _ _ _ _ _ (omega arith)
    (elim c.match-step-2.branch [
      | in-Moved w ↦ asks_on_moved _ _ _ _ _ _ _ _ _ _ c.in-Ok.step _ w.in-Moved.is w.moved-is c.in-Ok.ensures.moves c.in-Ok.ensures.counted c.goes_on.ensures.counted c.goes_on.ensures.idle c.loop.invariant.asks
      | in-Idle w ↦ asks_on_idle _ _ _ _ _ _ _ _ _ _ c.in-Ok.step _ w.in-Idle.is w.moved-is c.in-Ok.ensures.moves c.in-Ok.ensures.counted c.goes_on.ensures.counted c.goes_on.ensures.idle c.loop.invariant.asks
    ])
