-- The frames that are given on, as frames.
use Rattle.std.specs.Prelude.{ℕ, Bool}
use Rattle.mux_frame.specs.declared.dlci.Dlci.{Dlci}
use Rattle.mux_frame.specs.Frames.{Frame, frame_of}
use Rattle.mux_station.specs.declared.outgoing.Outgoing as lent
use Rattle.mux_station.specs.declared.turn.Turn as asked
use Rattle.mux_station.specs.declared.turn.Turn.TheVariants as turn

-- a frame, and whether it is data, which is sent as it is given on
pub record Outgoing : Type 0 where
  pub frame : Frame
  pub fresh : Bool

-- the frame that is lent, and whether it is data
abbrev pub outgoing_of : lent.Outgoing → Outgoing
outgoing_of o = record { frame = frame_of o.frame; fresh = o.fresh }

-- the frame, and whether it is fresh
abbrev pub with_freshness : Bool → Frame → Outgoing
with_freshness fresh f = record { frame = f; fresh = fresh }

-- whose turn it is: that of the control queue's first frame, or of this connection's data
pub data Turn : Type 0 where
  Control : Turn
  Data : ℕ → Turn

-- the same, as the code has it
abbrev pub as_turn : asked.Turn → Turn
as_turn turn.Control = Control
as_turn (turn.Data d) = Data d.number

-- the number of a connection
abbrev pub dlci_of : Dlci → ℕ
dlci_of d = d.number
