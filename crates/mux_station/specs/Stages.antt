-- How a connection's stage is seen.
use Rattle.mux_station.specs.declared.channel.Stage.{Stage}
use Rattle.mux_station.specs.declared.channel.Stage.TheVariants as stage
use Rattle.mux_station.specs.declared.role.ChannelState.{ChannelState}
use Rattle.mux_station.specs.declared.role.ChannelState.TheVariants.{Shut, Opening, Opened, Closing, Stopping}
use Rattle.mux_station.specs.States.{State, IsShut, IsOpening, IsOpened, IsClosing, IsStopping}

-- the state of the table
abbrev pub stage_state : Stage → State
stage_state stage.Shut = IsShut
stage_state (stage.Opening r) = IsOpening r.count
stage_state stage.Opened = IsOpened
stage_state (stage.Closing r) = IsClosing r.count
stage_state (stage.Stopping r) = IsStopping r.count

-- the state without its count
abbrev pub as_shown : State → ChannelState
as_shown IsShut = Shut
as_shown (IsOpening n) = Opening
as_shown IsOpened = Opened
as_shown (IsClosing n) = Closing
as_shown (IsStopping n) = Stopping
