-- What a station keeps.
use Rattle.std.specs.Prelude.{ℕ, ◌==◌, ◌&&◌, ◌||◌, not, Bool, false, List, [], Option, None, Some, nat_le, ◌+◌, length, if◌then◌else◌, ◌∷◌, ◌++◌, slice_index_or, slice_set, replicate}
use Rattle.mux_frame.specs.Frames.{Frame}
use Rattle.mux_station.specs.declared.role.Role.{Role}
use Rattle.mux_station.specs.States.{State, IsShut, IsStopping, is_opened}
use Rattle.mux_station.specs.declared.error.StationError.{StationError}
use Rattle.mux_station.specs.declared.error.StationError.TheVariants.{NoRoom}
use Rattle.mux_station.specs.Messages.{test, cld}
use Rattle.mux_station.specs.Acts.{Call, Offer}
use Rattle.mux_station.specs.Tables.{octets_of, message_frame}
use Rattle.mux_station.specs.Sending.{StationSetting, StationView, Waiting, got_refused, refused, or_else, without_room}

-- what a station keeps of one connection: its state, its own stop, and the octets in its send ring
pub record Channel : Type 0 where
  pub state : State
  pub is_stopped : Bool
  pub waiting : List ℕ

-- a connection that is Shut
abbrev pub shut_channel : Channel
shut_channel = record { state = IsShut; is_stopped = false; waiting = [] }

-- what a station keeps: the connections 0 to 61, the stop of all, the probe that waits, the control queue,
-- and the connection that last sent data
pub record Station : Type 0 where
  pub role : Role
  pub n1 : ℕ
  pub channels : List Channel
  pub all_stopped : Bool
  pub probe : Option Waiting
  pub queue : List Frame
  pub last : ℕ

-- what is kept of d
abbrev pub channel_at : Station → ℕ → Channel
channel_at v d = slice_index_or v.channels d shut_channel

-- a new station
abbrev pub new_station : Role → ℕ → Station
new_station r n1 = record {
  role = r;
  n1 = n1;
  channels = replicate 62 shut_channel;
  all_stopped = false;
  probe = None;
  queue = [];
  last = 0;
}

-- the setting of a station's history
abbrev pub setting_of : Station → StationSetting
setting_of v = record { role = v.role; n1 = v.n1 }

-- what a call sees of a station
abbrev pub seen_in : Station → StationView
seen_in v = record { state = λ d. (channel_at v d).state; queued = octets_of v.queue; probe = v.probe }

-- why a call is refused, by what a station keeps
abbrev pub refused_in : Station → Call → Option StationError
refused_in v c = refused (setting_of v) (seen_in v) c

-- why a frame that comes is refused, by what a station keeps
abbrev pub frame_refused_in : Station → Frame → Option StationError
frame_refused_in v f = got_refused (setting_of v) (seen_in v) f

-- why these frames are refused by the control queue, by what a station keeps
abbrev pub without_room_in : Station → List Frame → Option StationError
without_room_in v fs = without_room (setting_of v) (seen_in v) fs

-- the stop of all is in force: 0 is Opened
abbrev pub all_stopped_in : Station → Bool
all_stopped_in v = is_opened (channel_at v 0).state && v.all_stopped

-- d is stopped by its own stop or by that of all
abbrev pub stopped_in : Station → ℕ → Bool
stopped_in v d =
    not (d == 0)
    && ((is_opened (channel_at v d).state && (channel_at v d).is_stopped)
    || all_stopped_in v)

-- d turned to another state, everything of it afresh, and this frame was put into the control queue
abbrev pub asked_in : Station → ℕ → State → Frame → Station
asked_in v d state f = record v {
  channels = slice_set v.channels d (record { state = state; is_stopped = false; waiting = [] });
  queue = v.queue ++ f ∷ [];
}

-- a probe waits, and its Test command was put into the control queue
abbrev pub probed_in : Station → List ℕ → Station
probed_in v octets = record v {
  probe = Some (record { data_octets = octets; ticks = 0 });
  queue = v.queue ++ message_frame v.role test octets ∷ [];
}

-- 0 is Stopping, every other connection Shut, and a CLD command was put into the control queue
abbrev pub stopping_in : Station → Station
stopping_in v = record v {
  channels =
      slice_set (replicate 62 shut_channel) 0
      (record { state = IsStopping 0; is_stopped = false; waiting = [] });
  probe = None;
  queue = v.queue ++ message_frame v.role cld [] ∷ [];
}

-- why an offer is refused: no place in the send ring of 1024 octets is the last refusal
abbrev pub offer_refused : Station → ℕ → List ℕ → Option StationError
offer_refused v d octets =
    or_else (refused_in v (Offer d octets))
    (if nat_le (length (channel_at v d).waiting + length octets) 1024 then None else Some NoRoom)

-- the octets wait in d's send ring
abbrev pub offered_in : Station → ℕ → List ℕ → Station
offered_in v d octets = record v {
  channels =
      slice_set v.channels d (record (channel_at v d) { waiting = (channel_at v d).waiting ++ octets });
}
