-- Whose data is next, read over the past.
use Rattle.std.specs.Prelude.{◌≡◌, ℕ, ◌+◌, ◌-◌, ◌&&◌, not, nat_lt, Bool, List, [], ◌∷◌, ◌++◌, length, Option, None}
use Rattle.std.specs.List.{find, range_with_len}
use Rattle.mux_frame.specs.Frames.{Frame}
use Rattle.mux_station.specs.declared.role.Role.{Role}
use Rattle.mux_station.specs.Acts.{Act}
use Rattle.mux_station.specs.Opening.{is_open}
use Rattle.mux_station.specs.Stopping.{is_stopped}
use Rattle.mux_station.specs.Offering.{offered, data_out, last_sender}
use Rattle.mux_station.specs.Sending.{StationSetting, queue}
use Rattle.mux_station.specs.Stations.{Station, setting_of}
use Rattle.mux_station.specs.Fitting.{StationFits}
use Rattle.mux_station.specs.Giving.{next_sender}

-- data may leave d: it is open and not stopped, and of what was offered on it since it opened some wasn't
-- given on yet
abbrev pub has_data : Role → List Act → ℕ → Bool
has_data r past d =
    is_open r d past
    && (not (is_stopped r d past) && nat_lt (length (data_out r d past)) (length (offered r d past)))

-- the order in which connections have their turn after d: those above it, then all from 1 on; so d has its turn again
-- where no other has data
abbrev pub turns_after : ℕ → List ℕ
turns_after d = range_with_len (d + 1) (61 - d) ++ range_with_len 1 61

-- the connection whose turn it is: after the one that last sent data, the first that may send some
abbrev pub turn_of : Role → List Act → Option ℕ
turn_of r past = find (has_data r past) (turns_after (last_sender past))

-- data goes behind all control frames
abbrev pub where_none_waits : List Frame → Option ℕ → Option ℕ
where_none_waits [] turn = turn
where_none_waits (f ∷ fs) turn = None

-- the connection whose data is next
abbrev pub sender_of : StationSetting → List Act → Option ℕ
sender_of s past = where_none_waits (queue past) (turn_of s.role past)

-- the connection whose data is next at a station is what each past that it fits says
unfoldable pub SeesTheTurn : Station → List Act → Type 0
SeesTheTurn v past = StationFits v past → next_sender v v.queue ≡ sender_of (setting_of v) past
