-- What happens at an end of the line. A past is written with its newest act first. A refused call is no
-- act: nothing came of it.
use Rattle.std.specs.Prelude.{ℕ, Bool, List}
use Rattle.mux_frame.specs.Frames.{Frame}

-- what its user asks of it
pub data Call : Type 0 where
  Open : (dlci : ℕ) → Call
  Close : (dlci : ℕ) → Call
  Probe : (data_octets : List ℕ) → Call
  Stop : Call
  Flow : (dlci : ℕ) → (go : Bool) → Call
  -- an offer that was taken
  Offer : (dlci : ℕ) → (octets : List ℕ) → Call

-- what happens at an end of the line
pub data Act : Type 0 where
  Called : Call → Act
  Got : Frame → Act
  Sent : Frame → Act
  Tick : Act
  Lost : Act
  -- one frame of the control queue is given on: a mark, where room is spoken of
  Given : Act
