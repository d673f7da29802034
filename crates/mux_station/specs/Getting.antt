-- What a received frame does to a station.
use Rattle.std.specs.Prelude.{◌≡◌, ℕ, ◌==◌, ◌&&◌, ◌||◌, Bool, true, false, List, [], ◌∷◌, ◌++◌, Option, None, Some, if◌then◌else◌, slice_set, replicate, unwrap_or}
use Rattle.mux_frame.specs.Frames.{Frame}
use Rattle.mux_frame.specs.declared.frame.Kind.{Kind}
use Rattle.mux_frame.specs.declared.frame.Kind.TheVariants.{Sabm, Ua, Uih}
use Rattle.mux_station.specs.declared.role.Role.{Role}
use Rattle.mux_station.specs.declared.role.Role.TheVariants.{Initiator, Responder}
use Rattle.mux_station.specs.declared.row.Turn.{Turn}
use Rattle.mux_station.specs.declared.row.Turn.TheVariants.{Stays, Opens, Shuts}
use Rattle.mux_station.specs.Written.{is_kind, is_on, written}
use Rattle.mux_station.specs.Messages.{Message, message_of, cld, msc, command_of, msc_dlci, msc_stops}
use Rattle.mux_station.specs.States.{State, IsShut, IsOpened, IsStopping, is_opened, got_by}
use Rattle.mux_station.specs.Tables.{is_opening, msc_after_opening, by_table, response}
use Rattle.mux_station.specs.Sending.{Waiting, brings_probe_back, refuses_probe}
use Rattle.mux_station.specs.Stopping.{flow_says}
use Rattle.mux_station.specs.Stations.{Channel, Station, channel_at, shut_channel}
use Rattle.mux_station.specs.Ticking.{turned_in}

-- ## Frames of the tables

-- the state that a connection is turned to
abbrev pub turned : Turn → State → State
turned Stays s = s
turned Opens s = IsOpened
turned Shuts s = IsShut

-- the connection opens
abbrev pub is_opens : Turn → Bool
is_opens Opens = true
is_opens _ = false

-- whether a frame opens its connection, where at_zero says whether that is 0, or 0 is Opened
abbrev pub opens_by : Role → Bool → State → Kind → Bool
opens_by Initiator at_zero own k = is_kind k Ua && is_opening own
opens_by Responder at_zero own k = is_kind k Sabm && at_zero

-- the turn is what the table says
pub record TurnsBy (r : Role) (at_zero : Bool) (own : State) (k : Kind) (t : Turn) : Type 0 where
  pub state : turned t own ≡ got_by r at_zero own k
  pub opens : is_opens t ≡ opens_by r at_zero own k

-- the UA or DM of a row, if it has one
abbrev pub answer_frames : Role → ℕ → Option Kind → List Frame
answer_frames r d None = []
answer_frames r d (Some k) = written r k d [] ∷ []

-- the frames of a row of a table: its UA or DM, and an MSC where the connection opens
abbrev pub row_frames : Role → ℕ → Option Kind → Turn → List Frame
row_frames r d answer t = answer_frames r d answer ++ (if is_opens t then msc_after_opening r d else [])

-- 0 is turned, everything else is Shut, and the stop of all and the probe are forgotten
abbrev pub all_turned_in : Station → State → Station
all_turned_in v s = record v {
  channels = slice_set (replicate 62 shut_channel) 0 (record { state = s; is_stopped = false; waiting = [] });
  all_stopped = false;
  probe = None;
}

-- the station, d turned to another state; 0 shuts all others
abbrev pub turned_on : Station → ℕ → State → Station
turned_on v d s = if d == 0 then all_turned_in v s else turned_in v d s

-- the station, d turned as a row of a table says
abbrev pub turned_by : Station → ℕ → Turn → Station
turned_by v d Stays = v
turned_by v d Opens = turned_on v d IsOpened
turned_by v d Shuts = turned_on v d IsShut

-- the station, with these frames at the end of its control queue
abbrev pub queued_in : Station → List Frame → Station
queued_in v fs = record v { queue = v.queue ++ fs }

-- the frame is answered, and its connection turned as the table says
pub record FollowsTable (old new : Station) (d : ℕ) (k : Kind) : Type 0 where
  pub turn : Turn
  pub turns :
      TurnsBy old.role ((d == 0) || is_opened (channel_at old 0).state) (channel_at old d).state k turn
  pub new_is :
      new ≡ turned_by
      (queued_in old (by_table old.role d (channel_at old 0).state (channel_at old d).state k)) d turn

-- ## Messages

-- an MSC sets the stop of its connection, if that is Opened
abbrev pub stops_set : Station → Message → List Channel
stops_set v m =
    let c = channel_at v (msc_dlci m.value) in
    if (m.octet == msc) && is_opened c.state
    then slice_set v.channels (msc_dlci m.value) (record c { is_stopped = msc_stops m.value })
    else v.channels

-- the probe, which waits no more where this message answers it
abbrev pub probe_answered : Option Waiting → Message → Option Waiting
probe_answered None m = None
probe_answered (Some w) m =
    if brings_probe_back w.data_octets (Some m) || refuses_probe (Some m) then None else Some w

-- the station after a message while 0 is Opened
abbrev pub told_in : Station → Message → Station
told_in v m =
    if m.octet == cld then all_turned_in v IsShut
    else record v {
      channels = stops_set v m;
      all_stopped = unwrap_or (flow_says m) v.all_stopped;
      probe = probe_answered v.probe m;
    }

-- the station after a message in Stopping
abbrev pub ended_in : Station → Message → Station
ended_in v m = if (m.octet == cld) || (command_of m.octet == cld) then all_turned_in v IsShut else v

-- the frames that a message calls for, by the state of 0
abbrev pub message_calls : Role → State → Option Message → List Frame
message_calls r IsOpened (Some m) = response r m
message_calls r (IsStopping n) (Some m) = if m.octet == cld then response r m else []
message_calls r s m = []

-- the station after a message, by the state of 0
abbrev pub message_taken : Station → State → Option Message → Station
message_taken v IsOpened (Some m) = told_in v m
message_taken v (IsStopping n) (Some m) = ended_in v m
message_taken v s m = v

-- ## A frame

-- a frame is read as a message, or else by the tables
pub record FrameTaken (old new : Station) (f : Frame) : Type 0 where
  pub by_message :
      is_on Uih 0 f ≡ true
      → new ≡ message_taken
      (queued_in old (message_calls old.role (channel_at old 0).state (message_of f.info)))
      (channel_at old 0).state (message_of f.info)
  pub by_table : is_on Uih 0 f ≡ false → FollowsTable old new f.dlci f.kind
