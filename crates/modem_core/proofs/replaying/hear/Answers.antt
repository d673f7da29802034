-- The octets that the deframer took come behind those before them.
use Rattle.std.proofs.Common.{rules}
use Rattle.modem_core.specs.Running.{running_of}
use Rattle.modem_core.proofs.replays.ArrivalOrder.{heard_none, heard_more}
use Rattle.modem_core.proofs.replaying.hear.Goals as goal

pub loop-left-init : goal.loop-left-init
loop-left-init c = record { come = heard_none c.args.octets.now c.args.deframer.now (running_of c.args.running.now) c.requires.none; idle = c.requires.idle; n1 = c.requires.n1 }

pub loop-left-preserved : goal.loop-left-preserved
loop-left-preserved c = record {
  come =
      heard_more c.args.octets.now c.loop-left.left.now _ c.feed-count.result c.args.deframer.now c.loop-left.deframer c.feed-count.new.self _ (running_of c.args.running.now) (running_of c.loop-left.running) _
      c.loop-left.invariant.come
      c.feed-count.ensures.n1
      c.feed-count.ensures.past
      (search rules)
      c.in_ok-handle_frames.ensures.come
      c.in_ok-handle_frames.ensures.all;
  idle = c.in_ok-handle_frames.ensures.idle;
  n1 = c.in_ok-handle_frames.ensures.n1;
}
