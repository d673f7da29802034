-- Both ends of a line, as a capture shows them. A line is the list of the frames that were captured, the newest first.
use Rattle.std.specs.Prelude.{Bool}
use Rattle.mux_frame.specs.Frames.{Frame}
use Rattle.mux_capture.specs.declared.packet.Direction.{Direction}
use Rattle.mux_capture.specs.declared.packet.Direction.TheVariants.{ToModem, FromModem}
use Rattle.mux_capture.specs.declared.packet.Stamp.{Stamp}
use Rattle.mux_capture.specs.Passing.{Caught, is_same}
use Rattle.mux_station.specs.declared.role.Role.{Role}
use Rattle.mux_station.specs.declared.role.Role.TheVariants.{Initiator, Responder}
use Rattle.mux_station.specs.Acts as act
use Rattle.mux_station.specs.Acts.{Act}
use Rattle.modem_show.specs.declared.deed.Deed.{Deed}
use Rattle.modem_show.specs.declared.deed.Deed.TheVariants.{Got, Sent}

-- the end that sends this way: the initiator to the modem, the responder from there
abbrev pub sender : Direction → Role
sender ToModem = Initiator
sender FromModem = Responder

abbrev pub other : Role → Role
other Initiator = Responder
other Responder = Initiator

-- the way that the frames of an end go
abbrev pub way_of : Role → Direction
way_of Initiator = ToModem
way_of Responder = FromModem

-- the frame is of this end
abbrev pub is_from : Role → Caught → Bool
is_from r c = is_same c.direction (way_of r)

-- the act of an end that sends or gets a frame
abbrev pub act_of : Deed → Frame → Act
act_of Got f = act.Got f
act_of Sent f = act.Sent f

-- a frame that was captured
abbrev pub caught : Stamp → Direction → Frame → Caught
caught stamp direction f = record { stamp = stamp; direction = direction; frame = f }
