-- The invariant of a station's fields.
use Rattle.std.specs.Prelude.{◌≡◌, ℕ, ◌+◌, ◌<◌, ◌≤◌, List, length}
use Rattle.mux_station.specs.declared.station.WaitingProbe.{WaitingProbe}
use Rattle.mux_station.specs.ControlQueues.{ControlQueue}
use Rattle.mux_station.specs.Sending.{Waiting}
use Rattle.mux_station.specs.Stations.{Channel}

-- the probe that waits
abbrev pub waiting_of : WaitingProbe → Waiting
waiting_of p = record { data_octets = p.octets; ticks = p.ticks.count }

-- N1 in its bounds, every connection there is, and the room of the control queue
pub record IsKept (n1 : ℕ) (channels : List Channel) (control : ControlQueue) (last : ℕ) : Type 0 where
  pub low : 31 ≤ n1
  pub high : n1 ≤ 32767
  pub all : length channels ≡ 62
  pub room : control.room ≡ 4096 + n1
  pub last_in_range : last < 62
