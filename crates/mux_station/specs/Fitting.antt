-- A station fits a past where each thing that it keeps is what the past says.
use Rattle.std.specs.Prelude.{◌≡◌, ℕ, ◌<◌, ◌==◌, true, false, List, ◌++◌}
use Rattle.std.specs.List.{list_any}
use Rattle.mux_frame.specs.Frames.{Frame}
use Rattle.mux_station.specs.declared.role.Role.{Role}
use Rattle.mux_station.specs.Acts.{Call, Open, Close, Flow, Offer, Act}
use Rattle.mux_station.specs.Opening.{is_asked, since}
use Rattle.mux_station.specs.States.{IsShut, is_opened, state_of}
use Rattle.mux_station.specs.Stopping.{last_said, got_says, msc_says, flow_says}
use Rattle.mux_station.specs.Sending.{is_loss, queue, station_view, refused, got_refused, probe_of, after_act}
use Rattle.mux_station.specs.Offering.{offered, data_out, last_sender}
use Rattle.mux_station.specs.Stations.{Channel, Station, channel_at, setting_of, refused_in, frame_refused_in}

-- The connection's state is that of the table. While it is open, no SABM was sent on it since it opened, its own stop
-- is what the last MSC for it said, and what was offered on it is what was given on and then what its ring holds.
pub record ChannelFits (r : Role) (d : ℕ) (past : List Act) (c : Channel) : Type 0 where
  pub state_is : state_of r d past ≡ c.state
  pub unasked : is_opened c.state ≡ true → is_asked r d past ≡ false
  pub stop_is : is_opened c.state ≡ true → last_said (got_says (msc_says d)) (since r d past) ≡ c.is_stopped
  pub ring_is : is_opened c.state ≡ true → offered r d past ≡ data_out r d past ++ c.waiting

-- a station fits a past
pub record StationFits (v : Station) (past : List Act) : Type 0 where
  -- a station is told of no loss of the line: whoever holds it drops it then
  pub live : list_any is_loss past ≡ false
  pub channels_are : (d : ℕ) → d < 62 → ChannelFits v.role d past (channel_at v d)
  pub others_shut :
      is_opened (channel_at v 0).state ≡ false → (d : ℕ) → d < 62 → (d == 0) ≡ false
      → (channel_at v d).state ≡ IsShut
  pub stop_of_all_is :
      is_opened (channel_at v 0).state ≡ true
      → last_said (got_says flow_says) (since v.role 0 past) ≡ v.all_stopped
  pub probe_is : probe_of (setting_of v) past ≡ v.probe
  pub queue_is : queue past ≡ v.queue
  pub last_is : last_sender past ≡ v.last

-- whatever past it fits, the station goes on with this act and all frames that it calls for; its role and
-- N1 stay
pub record StationHandles (old new : Station) (a : Act) : Type 0 where
  pub setting : setting_of new ≡ setting_of old
  pub fits : (past : List Act) → StationFits old past → StationFits new (after_act (setting_of old) past a)

-- the connection that a call names; 0 where it names none
abbrev pub call_dlci : Call → ℕ
call_dlci (Open d) = d
call_dlci (Close d) = d
call_dlci (Flow d go) = d
call_dlci (Offer d octets) = d
call_dlci _ = 0

-- a call is refused by what a station keeps just where it is refused by each past that the station fits
abbrev pub SeesThePast : Station → List Act → Call → Type 0
SeesThePast v past c =
    StationFits v past → call_dlci c < 62
    → refused_in v c ≡ refused (setting_of v) (station_view (setting_of v) past) c

-- a frame that comes is refused by what a station keeps just where it is refused by each past that it fits
abbrev pub SeesTheFrame : Station → List Act → Frame → Type 0
SeesTheFrame v past f =
    StationFits v past → f.dlci < 62
    → frame_refused_in v f ≡ got_refused (setting_of v) (station_view (setting_of v) past) f
