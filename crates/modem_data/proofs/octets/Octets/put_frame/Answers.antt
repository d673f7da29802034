-- A frame takes up to 7 octets more than its information.
use Rattle.std.specs.Prelude.{◌≤◌, ◌+◌, length}
use Rattle.std.proofs.Common.{subst}
use Rattle.mux_frame.specs.Frames.{frame_of}
use Rattle.modem_data.specs.Queues.{Queue}
use Rattle.modem_data.proofs.FrameRoom.{few_more}
use Rattle.modem_data.proofs.octets.Octets.put_frame.Goals as goal

pub returns-clause-len : goal.returns-clause-len
returns-clause-len c =
    subst (λ (q : Queue). length c.write.new.output.items ≤ q.len + (length c.args.frame.info.now + 7)) c.self.view_is (few_more c.self.inside.octets.items c.write.new.output.items (frame_of c.args.frame) c.write.ensures.written)
