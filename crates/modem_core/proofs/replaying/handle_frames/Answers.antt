-- The frame at hand comes behind those before it.
use Rattle.std.specs.Prelude.{[]}
use Rattle.std.proofs.Common.{sym, ◌∙◌, ap}
use Rattle.mux_frame.specs.Frames.{frame_of}
use Rattle.mux_frame.specs.Deframing.{Deframing}
use Rattle.modem_core.specs.Running.{running_of}
use Rattle.modem_core.proofs.replays.ArrivalOrder.{hears_none, hears_more}
use Rattle.modem_core.proofs.replaying.handle_frames.Goals as goal

pub loop-frame-init : goal.loop-frame-init
loop-frame-init c = record { come = hears_none c.args.deframer.now (running_of c.args.running.now); idle = c.requires.idle; n1 = c.requires.n1 }

pub loop-frame-preserved : goal.loop-frame-preserved
loop-frame-preserved c = record {
  come =
      hears_more [] c.args.deframer.now c.loop-frame.deframer _ _ (running_of c.args.running.now) (running_of c.loop-frame.running) _ (frame_of c.in-Some.frame)
      c.loop-frame.invariant.come
      c.peek.follows.holds-at-none
      (sym c.in-Some.ensures.frame)
      c.advance.ensures.n1
      c.advance.ensures.past
      c.in_ok-got.ensures.steps;
  idle = c.in_ok-got.ensures.idle;
  n1 = c.in_ok-got.ensures.n1 ∙ (c.loop-frame.invariant.n1 ∙ sym (c.advance.ensures.n1 ∙ ap (λ (d : Deframing). d.n1) c.peek.follows.holds-at-none));
}
