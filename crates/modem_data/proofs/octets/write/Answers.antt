-- There is room.
use Rattle.std.specs.Prelude.{vec_capacity}
use Rattle.mux_frame.specs.Frames.{frame_of}
use Rattle.modem_data.proofs.FrameRoom.{put_on}
use Rattle.modem_data.proofs.octets.write.Goals as goal

pub returns-clause-written : goal.returns-clause-written
returns-clause-written c = let e = c.write_frame.ensures in
    put_on c.args.n1 (frame_of c.args.frame) c.write_frame.result c.args.output.now.items c.write_frame.new.out.items (vec_capacity c.args.output.now) c.args.frame.dlci.in_range c.requires.bound c.requires.short c.requires.room e.written e.too_long e.others e.no_memory
