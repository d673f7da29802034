-- The events so far have come, and then one more, to the last.
use Rattle.std.specs.Prelude.{map}
use Rattle.std.proofs.Common.{rules, ap, sym, ◌∙◌}
use Rattle.mux_frame.specs.Deframing.{Deframing}
use Rattle.modem_history.specs.Acts.{act_of}
use Rattle.modem_history.specs.Calls.{replaying}
use Rattle.modem_core.specs.Cores.{Core}
use Rattle.modem_core.specs.Running.{running_of}
use Rattle.modem_core.proofs.replays.ReplaySoFar.{so_far_start, so_far_step}
use Rattle.modem_core.proofs.replays.FirstCore.{starts, idle_at_first}
use Rattle.modem_core.proofs.replaying.replay.Goals as goal

pub loop-event-init : goal.loop-event-init
loop-event-init c =
    let core = c.in_ok-new.ensures.ok in
    let bound = ap (λ (d : Deframing). d.n1) c.in-Ok.ensures.ok in
    record {
      so_far = so_far_start (replaying c.args.n1) c.args.events.now (record { core = c.in_ok-new.field-0; acts = map act_of c.new-3.result.items }) c.in-Ok.deframer (ap (map act_of) c.new-3.ensures.items) (starts c.args.n1 c.in_ok-new.field-0 core)
          c.in-Ok.ensures.past (search rules) (search rules);
      idle = idle_at_first c.args.n1 c.in_ok-new.field-0 core;
      n1 = ap (λ (v : Core). v.station.n1) core ∙ sym bound;
      none = ap (λ (d : Deframing). d.next) c.in-Ok.ensures.ok;
    }

pub loop-event-preserved : goal.loop-event-preserved
loop-event-preserved c = record {
  so_far =
      so_far_step (replaying c.args.n1) c.args.events.now c.loop-event.event-index c.event-item.result (running_of c.loop-event.running) (running_of c.handle.new.running) c.loop-event.deframer c.handle.new.deframer
      c.loop-event-test.true c.event-item.is c.loop-event.invariant.so_far c.in_ok-handle.ensures.come c.in_ok-handle.ensures.all;
  idle = c.in_ok-handle.ensures.idle;
  n1 = c.in_ok-handle.ensures.n1;
  none = c.in_ok-handle.ensures.all;
}
