-- What is written is the frame.
use Rattle.std.proofs.Common.{rules, take}
use Rattle.mux_frame.specs.Frames.{frame_of}
use Rattle.modem_data.proofs.DataSpelled.{short_spelled, long_spelled}
use Rattle.modem_data.proofs.writing.write_data.Goals as goal

pub returns-then-length-lt128-clause-written : goal.returns-then-length-lt128-clause-written
returns-then-length-lt128-clause-written c =
    short_spelled (frame_of c.args.frame) c.address_octet-address.result (take c.put_behind.result c.put_behind.new.room) c.requires.kind c.requires.pf (search rules) c.address_octet-address.ensures c.put_behind.ensures.put

pub returns-clause-written : goal.returns-clause-written
returns-clause-written c =
    long_spelled (frame_of c.args.frame) c.address_octet-address.result (take c.put_behind-2.result c.put_behind-2.new.room) c.requires.kind c.requires.pf (search rules) c.address_octet-address.ensures c.put_behind-2.ensures.put
