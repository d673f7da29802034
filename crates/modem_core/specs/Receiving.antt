-- What a received frame does to a core.
use Rattle.std.specs.Prelude.{not, ◌≡◌, ℕ, ◌&&◌, Bool, List, [], ◌∷◌, ◌++◌, length, take, max, Option, None, Some, slice_set, if◌then◌else◌}
use Rattle.mux_frame.specs.Frames.{Frame}
use Rattle.mux_station.specs.Written.{is_data_frame}
use Rattle.mux_station.specs.Tables.{have_room, octets_of}
use Rattle.mux_station.specs.Sending.{queue}
use Rattle.mux_station.specs.Stations.{channel_at}
use Rattle.mux_station.specs.States.{is_opened}
use Rattle.modem_history.specs.Acts.{Act, Got, Sent, wire}
use Rattle.modem_core.specs.Lanes.{Lane, new_lane}
use Rattle.modem_history.specs.Calls.{Setting, seen, frames}
use Rattle.modem_core.specs.Cores.{Core, Handles}
use Rattle.modem_core.specs.Holding.{KeepsHeld}
use Rattle.modem_core.specs.CoreGoing.{StandsIn}

-- ## Room

-- the frames that an act calls for fit into the control queue
abbrev pub fits_in : Setting → List Act → Act → Bool
fits_in s past a = have_room s.n1 (octets_of (queue (wire past))) (frames s (seen s past) a)

-- what the frame calls for fits into the control queue by every past, or by none
unfoldable pub HasRoom : Core → Act → Bool → Type 0
HasRoom v a has = (s : Setting) (past : List Act) → StandsIn s v past → fits_in s past a ≡ has

-- ## A frame that is sent for it

-- the frame with as much of its information as there is room for
abbrev pub cut_to : ℕ → Frame → Frame
cut_to room f = record f { info = take room f.info }

-- the act by which a frame is sent, with as much of its information as there is room for
abbrev pub sent_in : ℕ → Option Frame → List Act
sent_in room None = []
sent_in room (Some f) = Sent (cut_to room f) ∷ []

-- room for what answers information: as much, or an MSC of four octets
abbrev pub answer_room : Frame → ℕ
answer_room f = max (length f.info) 4

-- ## What is kept

-- the lanes, where that of a connection that opens starts afresh
abbrev pub afresh_if : Bool → ℕ → List Lane → List Lane
afresh_if opens d lanes = if opens then slice_set lanes d new_lane else lanes

-- the frame is data of a connection that is open
abbrev pub reads_data : Core → Frame → Bool
reads_data v f = is_opened (channel_at v.station f.dlci).state && is_data_frame f

-- the line isn't lost, and the frame is data of a connection that is open
abbrev pub brings_data : Core → Frame → Bool
brings_data v f = not v.lost && reads_data v f

-- ## What data brings

-- the core handles data of an open connection: behind what was said before stand the lines and the answer that it brings
pub record Brings (old new : Core) (f : Frame) (was now : List Act) : Type 0 where
  pub said : List Act
  pub now_is : now ≡ was ++ said
  pub past : Handles old new (Got f) (Got f ∷ said)
  pub holds : KeepsHeld old new (Got f) (Got f ∷ said)
