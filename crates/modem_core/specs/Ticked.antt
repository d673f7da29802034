-- What a core sees of its station at a tick.
use Rattle.std.specs.Prelude.{zero, suc, ℕ, ◌+◌, Bool, true, false, List, [], map, take, drop, if◌then◌else◌}
use Rattle.mux_frame.specs.Frames.{Frame}
use Rattle.mux_station.specs.States.{State, IsOpening, IsClosing}
use Rattle.mux_station.specs.declared.role.ChannelState.{ChannelState}
use Rattle.mux_station.specs.declared.role.ChannelState.TheVariants.{Opening, Closing}
use Rattle.mux_station.specs.Stations.{Station, channel_at}
use Rattle.mux_station.specs.declared.tick.GivenUp.{GivenUp}
use Rattle.mux_station.specs.Noticing.{up_of}
use Rattle.mux_station.specs.Ticking.{Up, UpChannel, UpProbe}

-- a frame without its information
abbrev pub bared : Frame → Frame
bared f = record f { info = [] }

-- so many frames of a queue from a place on, without information
abbrev pub queued_from : List Frame → (place : ℕ) → (most : ℕ) → List Frame
queued_from fs place most = map bared (take most (drop place fs))

-- a connection waits for an answer to its SABM or DISC
abbrev pub is_asking : State → Bool
is_asking (IsOpening n) = true
is_asking (IsClosing n) = true
is_asking _ = false

-- a connection in this state waits for an answer to its SABM or DISC
abbrev pub shown_asking : ChannelState → Bool
shown_asking Opening = true
shown_asking Closing = true
shown_asking _ = false

-- how many of so many connections from d on wait for an answer
unfoldable pub asking_from : Station → (d : ℕ) → (count : ℕ) → ℕ
asking_from v d zero = 0
asking_from v d (suc count) =
    (if is_asking (channel_at v d).state then 1 else 0) + asking_from v (d + 1) count

-- the probe was given up
abbrev pub is_probe_up : Up → Bool
is_probe_up UpProbe = true
is_probe_up (UpChannel d) = false

-- the tick gave the probe up
abbrev pub is_probe_given : GivenUp → Bool
is_probe_given u = is_probe_up (up_of u)
