-- A frame is handled, and noted as each past says.
use Rattle.mux_frame.specs.Frames.{frame_of}
use Rattle.mux_station.proofs.received.AnsweredFrames.{got_handles, noted_in_past}
use Rattle.mux_station.proofs.station.Station.got.Goals as goal

pub returns-clause-past : goal.returns-clause-past
returns-clause-past c =
    let taken = c.take_frame in
    got_handles taken.result c.args.self.now taken.new.self (frame_of c.args.frame) c.args.frame.dlci.in_range taken.ensures.all taken.ensures.ok

pub returns-clause-noted_past : goal.returns-clause-noted_past
returns-clause-noted_past c =
    let taken = c.take_frame in
    noted_in_past taken.result c.args.self.now (frame_of c.args.frame) c.args.frame.dlci.in_range taken.ensures.noted
