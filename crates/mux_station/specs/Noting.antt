-- What is noted of a frame that comes (27.010, 5.4).
use Rattle.std.specs.Prelude.{◌≡◌, ℕ, ◌<◌, ◌==◌, ◌&&◌, ◌||◌, Bool, true, false, List, ◌∷◌, length, Option, None, Some, if◌then◌else◌}
use Rattle.mux_frame.specs.Frames.{Frame}
use Rattle.mux_frame.specs.declared.frame.Kind.{Kind}
use Rattle.mux_frame.specs.declared.frame.Kind.TheVariants.{Sabm, Ua, Dm, Disc, Uih}
use Rattle.mux_station.specs.declared.role.Role.{Role}
use Rattle.mux_station.specs.declared.role.Role.TheVariants.{Initiator, Responder}
use Rattle.mux_station.specs.declared.noted.Noted.{Noted}
use Rattle.mux_station.specs.declared.noted.Noted.TheVariants.{Opened, Refused, Closed, Reset, Info, ProbeBack, ProbeRefused, AllClosed, Nothing}
use Rattle.mux_station.specs.Written.{is_on, is_data_frame}
use Rattle.mux_station.specs.Messages.{Message, message_of, command_of, cld}
use Rattle.mux_station.specs.States.{State, IsShut, IsOpening, IsOpened, IsClosing, IsStopping, is_opened, state_of}
use Rattle.mux_station.specs.Acts.{Act, Got}
use Rattle.mux_station.specs.Opening.{is_open, opens_now}
use Rattle.mux_station.specs.Stations.{Station, setting_of}
use Rattle.mux_station.specs.Fitting.{StationFits}
use Rattle.mux_station.specs.Sending.{StationSetting, Waiting, StationView, station_view, brings_probe_back, refuses_probe}

-- what closes 0 closes all
abbrev pub closed_on : ℕ → Noted
closed_on d = if d == 0 then AllClosed else Closed

-- the initiator's table
abbrev pub by_initiator : ℕ → State → Kind → Noted
by_initiator d (IsOpening n) Ua = Opened
by_initiator d (IsOpening n) Uih = Nothing
by_initiator d (IsOpening n) k = Refused
by_initiator d IsOpened Ua = Nothing
by_initiator d IsOpened Uih = Info
by_initiator d IsOpened k = closed_on d
by_initiator d (IsClosing n) Ua = Closed
by_initiator d (IsClosing n) Dm = Closed
by_initiator d (IsStopping n) Dm = closed_on d
by_initiator d own k = Nothing

-- the responder's table, where at_zero says whether d is 0, or 0 is Opened
abbrev pub by_responder : ℕ → Bool → State → Kind → Noted
by_responder d at_zero own Sabm = if at_zero then (if is_opened own then Reset else Opened) else Nothing
by_responder d at_zero IsOpened Uih = Info
by_responder d at_zero IsOpened Disc = closed_on d
by_responder d at_zero (IsClosing n) Ua = closed_on d
by_responder d at_zero IsShut Dm = Nothing
by_responder d at_zero own Dm = closed_on d
by_responder d at_zero own k = Nothing

-- what is noted of a frame by the table of its role
abbrev pub noted_by_table : Role → ℕ → State → State → Kind → Noted
noted_by_table Initiator d channel own k = by_initiator d own k
noted_by_table Responder d channel own k = by_responder d ((d == 0) || is_opened channel) own k

-- an answer to the probe that waits
abbrev pub noted_of_probe : Option Waiting → Option Message → Noted
noted_of_probe None m = Nothing
noted_of_probe (Some w) m =
    if brings_probe_back w.data_octets m then ProbeBack
    else if refuses_probe m then ProbeRefused
    else Nothing

-- a message while 0 is Opened
abbrev pub noted_of_message : Option Waiting → Message → Noted
noted_of_message probe m = if m.octet == cld then AllClosed else noted_of_probe probe (Some m)

-- a message, by the state of 0
abbrev pub noted_by_message : State → Option Waiting → Option Message → Noted
noted_by_message IsOpened probe (Some m) = noted_of_message probe m
noted_by_message (IsStopping n) probe (Some m) =
    if (m.octet == cld) || (command_of m.octet == cld) then AllClosed else Nothing
noted_by_message own probe m = Nothing

-- what is noted of a frame
abbrev pub noted_of : Role → StationView → Frame → Noted
noted_of r v f =
    if is_on Uih 0 f then noted_by_message (v.state 0) v.probe (message_of f.info)
    else noted_by_table r f.dlci (v.state 0) (v.state f.dlci) f.kind

-- ## What that comes to

-- it is noted that the connection opened
abbrev pub says_open : Noted → Bool
says_open Opened = true
says_open Reset = true
says_open _ = false

abbrev pub says_info : Noted → Bool
says_info Info = true
says_info _ = false

-- what is noted of a frame is what happens
pub record NotesWhatHappens (s : StationSetting) (past : List Act) (f : Frame) : Type 0 where
  -- Opened or Reset: the frame opens its connection
  pub opened : says_open (noted_of s.role (station_view s past) f) ≡ opens_now s.role f.dlci past (Got f)
  -- Info: it is data of a connection that is open
  pub info :
      says_info (noted_of s.role (station_view s past) f) ≡ (is_data_frame f && is_open s.role f.dlci past)
  -- AllClosed: every connection is Shut after it; and so it is noted where 0 was open and isn't any more
  pub all_shut :
      noted_of s.role (station_view s past) f ≡ AllClosed → (d : ℕ) → d < 62
      → state_of s.role d (Got f ∷ past) ≡ IsShut
  pub closes_all :
      is_open s.role 0 past ≡ true → is_open s.role 0 (Got f ∷ past) ≡ false
      → noted_of s.role (station_view s past) f ≡ AllClosed

-- what is noted is what happens, in each past that the station fits
abbrev pub NotedTruly : Station → List Act → Frame → Type 0
NotedTruly v past f =
    StationFits v past → length v.channels ≡ 62 → f.dlci < 62 → NotesWhatHappens (setting_of v) past f
