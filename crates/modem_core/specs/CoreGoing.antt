-- What a core keeps after a frame has gone out.
use Rattle.std.specs.Prelude.{◌≡◌, ◌<◌, ℕ, ◌+◌, IfSome, nat_le, Bool, List, length, Option, None, Some, is_none, slice_set, if◌then◌else◌}
use Rattle.std.specs.List.{list_any, sum_by}
use Rattle.at_text.specs.UnderWay.{unanswered}
use Rattle.mux_station.specs.Stations.{Channel, channel_at}
use Rattle.mux_station.specs.Giving.{next_sender, station_after, turn_at}
use Rattle.mux_station.specs.GivenFrames.{Outgoing, Turn}
use Rattle.modem_history.specs.Acts.{Act}
use Rattle.modem_history.specs.Calls.{Setting}
use Rattle.modem_history.specs.Requests.{commands_on}
use Rattle.modem_core.specs.Cores.{Core, Fits, IsRun, IsSettingOf, lane_at}
use Rattle.modem_history.specs.GoingOut.{next_out, after_out}

-- a history that the core fits, and that may go on
pub record StandsIn (s : Setting) (v : Core) (past : List Act) : Type 0 where
  pub setting : IsSettingOf s v
  pub fits : Fits v past
  pub run : IsRun s past

-- a command is under way on d, where none was
abbrev pub begun_lane : Core → ℕ → Core
begun_lane v d =
    if is_none (lane_at v d).under_way
    then record v { lanes = slice_set v.lanes d (record (lane_at v d) { under_way = Some unanswered }) }
    else v

-- the same, where one is in hand
abbrev pub begun_by : Core → ℕ → (has : Bool) → Core
begun_by v d has = if has then begun_lane v d else v

-- where all octets that wait on d fit into the next frame, the window of the first command on d begins
abbrev pub begun_on : Core → Option ℕ → Core
begun_on v None = v
begun_on v (Some d) =
    if nat_le (length (channel_at v.station d).waiting) v.station.n1
    then begun_by v d (list_any (commands_on d) v.hand) else v

-- the core, with the window begun of the command whose last octets go out next
abbrev pub begun_next : Core → Core
begun_next v = begun_on v (next_sender v.station v.station.queue)

-- the core after the next frame has gone out
abbrev pub gone_on : Core → Core
gone_on v = if v.lost then v else record (begun_next v) { station = station_after v.station v.station.queue }

-- whose turn it is to go out: nobody's after a loss
abbrev pub turn_in : Core → Option Turn
turn_in v = if v.lost then None else turn_at v.station v.station.queue

-- what goes out is what every history that the core fits says
unfoldable pub GoesOut : Core → Option Outgoing → Type 0
GoesOut v o = (s : Setting) (past : List Act) → StandsIn s v past → o ≡ next_out s past

-- after the next frame has gone out the core fits every history with it, which goes on lawful and complete
unfoldable pub CoreGoesOn : Core → Type 0
CoreGoesOn v = (s : Setting) (past : List Act) → StandsIn s v past → StandsIn s (gone_on v) (after_out s past)

-- what may still go out: the frames in the control queue, and the octets in the send rings
abbrev pub left_to_go : Core → ℕ
left_to_go v = length v.station.queue + sum_by (λ (c : Channel). length c.waiting) v.station.channels

-- each frame that goes out leaves less to go
abbrev pub LeavesLess : Core → Option Outgoing → Type 0
LeavesLess v o = IfSome o (λ f. left_to_go (gone_on v) < left_to_go v)
