-- What a station gives on to the line.
use Rattle.std.specs.Prelude.{◌≡◌, ◌≢◌, ◌<◌, true, false, zero, suc, ℕ, ◌+◌, ◌-◌, ◌==◌, ◌&&◌, not, Bool, List, [], ◌∷◌, length, take, drop, Option, Some, None, option_map, if◌then◌else◌, slice_set}
use Rattle.mux_frame.specs.Frames.{Frame}
use Rattle.mux_frame.specs.declared.frame.Kind.TheVariants.{Uih}
use Rattle.mux_station.specs.Written.{written}
use Rattle.mux_station.specs.Acts.{Act, Sent, Given}
use Rattle.mux_station.specs.States.{is_opened}
use Rattle.mux_station.specs.declared.role.Role.{Role}
use Rattle.mux_station.specs.Opening.{is_open}
use Rattle.mux_station.specs.Stopping.{is_stopped}
use Rattle.mux_station.specs.Offering.{offered, data_out}
use Rattle.mux_station.specs.Sending.{queue, StationLawful, StationComplete}
use Rattle.mux_station.specs.Stations.{Station, channel_at, setting_of, stopped_in}
use Rattle.mux_station.specs.Fitting.{StationFits}
use Rattle.mux_station.specs.GivenFrames.{Turn, Control, Data}

-- d is Opened and not stopped, and octets wait in its ring
abbrev pub is_ready : Station → ℕ → Bool
is_ready v d =
    is_opened (channel_at v d).state && (not (stopped_in v d) && not (length (channel_at v d).waiting == 0))

-- the least that is ready of so many connections from d on
abbrev pub first_ready : Station → ℕ → ℕ → Option ℕ
first_ready v d zero = None
first_ready v d (suc count) = if is_ready v d then Some d else first_ready v (d + 1) count

abbrev pub else_first : Option ℕ → Option ℕ → Option ℕ
else_first (Some d) o = Some d
else_first None o = o

-- the least that is ready from d on
abbrev pub ready_from : Station → ℕ → Option ℕ
ready_from v d = first_ready v d (62 - d)

-- the connection whose turn it is: the least that is ready above the last that sent data, else the least that is ready
abbrev pub next_turn : Station → Option ℕ
next_turn v = else_first (ready_from v (v.last + 1)) (ready_from v 1)

-- what goes out next: the control queue's first frame, or, where that is empty, data of the connection whose turn it is
abbrev pub by_turn : {X : Type 0} → (control : Frame → List Frame → X) → (data_of : Option ℕ → X) → Station → List Frame → X
by_turn control data_of v (f ∷ fs) = control f fs
by_turn control data_of v [] = data_of (next_turn v)

-- whose turn it is
abbrev pub turn_at : Station → List Frame → Option Turn
turn_at v q = by_turn (λ f fs. Some Control) (option_map Data) v q

-- the connection whose data is next
abbrev pub next_sender : Station → List Frame → Option ℕ
next_sender v q = by_turn (λ f fs. None) (λ d. d) v q

-- the data frame of d: as many octets as wait, at most N1
abbrev pub data_frame : Station → ℕ → Frame
data_frame v d = written v.role Uih d (take v.n1 (channel_at v d).waiting)

-- the station after data of this connection was given on
abbrev pub data_given : Station → Option ℕ → Station
data_given v None = v
data_given v (Some d) = record v {
  channels =
      slice_set v.channels d (record (channel_at v d) { waiting = drop v.n1 (channel_at v d).waiting });
  last = d;
}

abbrev pub data_sent : Station → Option ℕ → List Act → List Act
data_sent v None past = past
data_sent v (Some d) past = Sent (data_frame v d) ∷ past

-- the next frame
abbrev pub next_given : Station → List Frame → Option Frame
next_given v q = by_turn (λ f fs. Some f) (option_map (data_frame v)) v q

-- the station after its next frame was given on
abbrev pub station_after : Station → List Frame → Station
station_after v q = by_turn (λ f fs. record v { queue = fs }) (data_given v) v q

-- the past after a control frame was given on, or data sent
abbrev pub after_given : Station → List Frame → List Act → List Act
after_given v q past = by_turn (λ f fs. Given ∷ past) (λ d. data_sent v d past) v q

-- this many octets were offered on d since it opened and not given on yet
unfoldable pub Waits : Role → ℕ → List Act → ℕ → Type 0
Waits r d past n = is_open r d past ≡ true → length (data_out r d past) + n ≡ length (offered r d past)

-- data may leave d next: it is open and not stopped, more was offered on it than was given on, and no control frame
-- waits
pub record SendsNext (r : Role) (d : ℕ) (past : List Act) : Type 0 where
  pub in_range : d < 62
  pub no_zero : (d == 0) ≡ false
  pub is_open : is_open r d past ≡ true
  pub goes : is_stopped r d past ≡ false
  pub some : length (data_out r d past) < length (offered r d past)
  pub alone : queue past ≡ []

-- by this past it may go out next: a control frame waits, or data may leave d
abbrev pub GoesNext : Role → List Act → Turn → Type 0
GoesNext r past Control = queue past ≢ []
GoesNext r past (Data d) = SendsNext r d past

-- whatever past the station fits, what is next may go out by it, the station fits it with what it gives on, and a
-- lawful and complete past stays so
pub record GivesOn (v : Station) : Type 0 where
  pub next :
      (past : List Act) (t : Turn) → StationFits v past → turn_at v v.queue ≡ Some t
      → GoesNext v.role past t
  pub fits :
      (past : List Act) → StationFits v past
      → StationFits (station_after v v.queue) (after_given v v.queue past)
  pub lawful :
      (past : List Act) → StationFits v past → StationLawful (setting_of v) past
      → StationComplete (setting_of v) past → StationLawful (setting_of v) (after_given v v.queue past)
  pub complete :
      (past : List Act) → StationFits v past → StationLawful (setting_of v) past
      → StationComplete (setting_of v) past → StationComplete (setting_of v) (after_given v v.queue past)
