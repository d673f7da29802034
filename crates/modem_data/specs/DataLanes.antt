-- What is kept of the data of a connection, from the beginning of a lane to its end.
use Rattle.std.specs.Prelude.{◌≡◌, ◌≤◌, ℕ, List, [], ◌++◌, length, if◌then◌else◌}
use Rattle.modem_data.specs.declared.switch.LineCut.{LineCut}
use Rattle.modem_data.specs.Switching.{Carries, Idle, IsCut, is_idle, data_of, carries_after, carries_sent, ended_by_call, without_carrier}

-- what it carries, the data that came and was not read yet, and the octets that were given and have not left yet
pub record DataLane : Type 0 where
  pub carries : Carries
  pub came : List ℕ
  pub to_go : List ℕ

-- how many octets hold the other end back: none once the lane is over
abbrev pub lane_waiting : DataLane → ℕ
lane_waiting l = if is_idle l.carries then 0 else length l.came

-- how many octets may wait to leave
abbrev pub most_to_go : ℕ
most_to_go = 4096

-- a frame's information came: its line octets are these, and its data waits behind what waited
pub record TakesInfo (old new : DataLane) (info : List ℕ) (cut : LineCut) : Type 0 where
  pub lines_are : IsCut cut old.carries info
  pub stands : new.carries ≡ carries_after old.carries info
  pub waits : new.came ≡ old.came ++ data_of old.carries info
  pub stays : new.to_go ≡ old.to_go

-- nothing is data, nothing came, and nothing was given
abbrev pub new_lane : DataLane
new_lane = record { carries = Idle; came = []; to_go = [] }

-- a lane begins so: what was given before isn't sent
abbrev pub begun_lane : DataLane → Carries → DataLane
begun_lane l begin = record l { carries = begin; to_go = [] }

-- the driver writes these octets
abbrev pub sent_lane : DataLane → List ℕ → DataLane
sent_lane l info = record l { carries = carries_sent l.carries info }

-- a lane is over: what came and wasn't read stays
abbrev pub ended_lane : DataLane → DataLane
ended_lane l = record l { carries = Idle }

-- a lane is ended by a call: the same, and a `>` that is held back goes before what comes next
abbrev pub left_lane : DataLane → DataLane
left_lane l = record l { carries = ended_by_call l.carries }

-- the carrier is lost that a lane lasts until
abbrev pub dropped_lane : DataLane → DataLane
dropped_lane l = record l { carries = without_carrier l.carries }

-- so many octets wait to leave, in room for so many
pub record HasRoom (count capacity : ℕ) : Type 0 where
  pub few : count ≤ most_to_go
  pub room : most_to_go ≤ capacity
