-- What a tick gives up, read over the past (27.010, 5.4.1, 5.4.2 and 5.7.3).
use Rattle.std.specs.Prelude.{◌≡◌, ℕ, ◌==◌, ◌&&◌, Bool, false, List, ◌++◌, map, filter}
use Rattle.std.specs.List.{list_any, range_with_len}
use Rattle.mux_frame.specs.declared.frame.Kind.TheVariants.{Disc}
use Rattle.mux_station.specs.Written.{is_on}
use Rattle.mux_station.specs.Acts.{Act, Tick}
use Rattle.mux_station.specs.States.{State, IsOpening, IsClosing, IsStopping, state_of}
use Rattle.mux_station.specs.Sending.{StationSetting, called_frames, probe_of}
use Rattle.mux_station.specs.Stations.{Station, setting_of}
use Rattle.mux_station.specs.Fitting.{StationFits}
use Rattle.mux_station.specs.Ticking.{Up, UpChannel, probe_up, noticed}

-- a tick calls for a DISC on d
abbrev pub sends_disc : StationSetting → List Act → ℕ → Bool
sends_disc s past d = list_any (is_on Disc d) (called_frames s past Tick)

-- a connection in this state is given up at its fourth tick; an opening only where its DISC has room
abbrev pub gives_up_by : State → (disc : Bool) → Bool
gives_up_by (IsOpening n) disc = (n == 3) && disc
gives_up_by (IsClosing n) disc = n == 3
gives_up_by (IsStopping n) disc = n == 3
gives_up_by s disc = false

-- a tick gives d up
abbrev pub gives_up_on : StationSetting → List Act → ℕ → Bool
gives_up_on s past d = gives_up_by (state_of s.role d past) (sends_disc s past d)

-- what a tick gives up: connections in rising order, then the probe
abbrev pub noticed_of : StationSetting → List Act → List Up
noticed_of s past =
    map UpChannel (filter (gives_up_on s past) (range_with_len 0 62)) ++ probe_up (probe_of s past)

-- what a station gives up at a tick is what each past that it fits says
unfoldable pub SeesTheTick : Station → List Act → Type 0
SeesTheTick v past = StationFits v past → noticed v ≡ noticed_of (setting_of v) past
