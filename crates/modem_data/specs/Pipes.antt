-- What is kept of a connection that carries data, and how it fits what passed.
use Rattle.std.specs.Prelude.{◌≡◌, ◌≢◌, ℕ, ◌==◌, ◌↔◌, ◌&&◌, not, Bool, true, false, List, [], ◌∷◌, ◌++◌, length, take, Option, Some, None, if◌then◌else◌, unwrap_or}
use Rattle.mux_frame.specs.Frames.{Frame}
use Rattle.mux_frame.specs.declared.frame.Kind.TheVariants.{Uih}
use Rattle.mux_station.specs.declared.role.Role.{Role}
use Rattle.mux_station.specs.Acts as station
use Rattle.mux_station.specs.Opening.{is_open}
use Rattle.mux_station.specs.Stopping.{got_says, msc_says}
use Rattle.mux_station.specs.Written.{is_on, written}
use Rattle.modem_data.specs.declared.switch.LineCut.{LineCut}
use Rattle.modem_data.specs.Switching.{Idle, IsCut, is_idle, lets_leave, takes_given, is_behind_lines}
use Rattle.modem_data.specs.declared.begin.Until.{Until}
use Rattle.modem_data.specs.DataLanes.{DataLane, dropped_lane, ended_lane, sent_lane}
use Rattle.modem_data.specs.Watching.{Watch, HasWatched, SaysMayLeave, may_leave, watched, watch_ends, watch_loses, watch_opens}
use Rattle.modem_data.specs.Passing.{Pass, Left, wire, is_data, carries, until_of, is_by_carrier, data_came, data_read, given, left, holds, driver_holds, LawfulPasses, IsOver, IsDue}

-- a connection: what the frames say of it, its lane and until when this lasts, and whether the last MSC for it that went holds it
pub record Pipe : Type 0 where
  pub watch : Watch
  pub lane : DataLane
  pub until : Until
  pub held : Bool
  pub by_driver : Bool

-- A pipe of d fits a past: what was read and what waits is all that came; what left and what waits is all that was given.
pub record PipeFits (role : Role) (n1 d : ℕ) (v : Pipe) (past : List Pass) : Type 0 where
  pub role_is : v.watch.role ≡ role
  pub dlci_is : v.watch.dlci ≡ d
  pub not_control : (d == 0) ≡ false
  pub lawful : LawfulPasses role n1 past
  pub watched : HasWatched v.watch (wire past)
  pub carries_is : v.lane.carries ≡ carries role d past
  pub until_is : v.until ≡ until_of d past
  pub came_is : data_read d past ++ v.lane.came ≡ data_came role d past
  pub to_go_is : left d past ++ v.lane.to_go ≡ given d past
  pub held_is : v.held ≡ holds role d past
  pub by_driver_is : v.by_driver ≡ driver_holds role d past

-- an act leads on, whatever passed before
unfoldable pub Leads : Pipe → Pipe → Pass → Type 0
Leads old new a = (role : Role) (n1 d : ℕ) (past : List Pass) → PipeFits role n1 d old past → PipeFits role n1 d new (a ∷ past)

-- what of a frame that came goes on to the driver: of information of a lane of d its lines, else all of it
unfoldable pub HandsOn : Pipe → Frame → Option LineCut → Type 0
HandsOn v f None = (role : Role) (n1 d : ℕ) (past : List Pass) → PipeFits role n1 d v past → is_data role d past f ≡ false
HandsOn v f (Some cut) =
    (role : Role) (n1 d : ℕ) (past : List Pass) → PipeFits role n1 d v past
    → (is_data role d past f ≡ true) × IsCut cut (carries role d past) f.info

-- nothing has passed yet
unfoldable pub BeginsPipe : Role → ℕ → Pipe → Type 0
BeginsPipe role d v = (n1 : ℕ) → PipeFits role n1 d v []

-- a frame of data leaves
unfoldable pub LeadsLeft : ℕ → Pipe → Pipe → Frame → Type 0
LeadsLeft n1 old new f = (role : Role) (d : ℕ) (past : List Pass) → PipeFits role n1 d old past → PipeFits role n1 d new (Left f ∷ past)

-- nothing may leave: the lane doesn't let it, d is shut or stopped, or all that was given has left
unfoldable pub HasNoneToSend : Pipe → Type 0
HasNoneToSend v =
    (role : Role) (n1 d : ℕ) (past : List Pass) → PipeFits role n1 d v past
    → lets_leave (carries role d past) ≡ true → may_leave role d (wire past) ≡ true → left d past ≡ given d past

-- a frame of data with these octets
abbrev pub data_of : Pipe → List ℕ → Frame
data_of v info = written v.watch.role Uih v.watch.dlci info

-- the next frame of data: of what waits as many octets as N1 allows
abbrev pub next_data : ℕ → Pipe → Frame
next_data n1 v = data_of v (take n1 v.lane.to_go)

-- a frame of data is at hand to leave
pub record MayLeave (v : Pipe) : Type 0 where
  pub lets : lets_leave v.lane.carries ≡ true
  pub may : SaysMayLeave v.watch true
  pub some : (length v.lane.to_go == 0) ≡ false

-- what is given to it may leave at once, since nothing that was given before waits
pub record IsFree (v : Pipe) : Type 0 where
  pub is_open : v.watch.own.is_open ≡ true
  pub lets : lets_leave v.lane.carries ≡ true
  pub may : SaysMayLeave v.watch true
  pub none : (length v.lane.to_go == 0) ≡ true

-- ## What a frame makes of a pipe

-- a lane is over, or goes on
abbrev pub lane_over : Bool → DataLane → DataLane
lane_over true l = ended_lane l
lane_over false l = l

-- or the driver writes on its connection
abbrev pub lane_gone : (ending info_here : Bool) → List ℕ → DataLane → DataLane
lane_gone true info_here info l = ended_lane l
lane_gone false true info l = sent_lane l info
lane_gone false false info l = l

-- or its carrier is lost
abbrev pub lane_behind : (ending dropping : Bool) → DataLane → DataLane
lane_behind true dropping l = ended_lane l
lane_behind false true l = dropped_lane l
lane_behind false false l = l

-- the frame takes the carrier that the lane lasts until
abbrev pub pipe_drops : Pipe → Frame → Bool
pipe_drops v f = is_by_carrier v.until && watch_loses v.watch (station.Got f)

-- one that came, and is no information on its connection
abbrev pub saw_pipe : Frame → Pipe → Pipe
saw_pipe f v = record {
  watch = watched v.watch (station.Got f);
  lane = lane_behind (watch_ends v.watch (station.Got f)) (pipe_drops v f) v.lane;
  until = v.until;
  held = if watch_opens v.watch (station.Got f) then false else v.held;
  by_driver = if watch_opens v.watch (station.Got f) then false else v.by_driver;
}

-- one of the driver that goes, and one that says something of the flow
abbrev pub said_held : Frame → Pipe → Bool → Bool
said_held f v held = unwrap_or (got_says (msc_says v.watch.dlci) (station.Got f)) held

abbrev pub sent_pipe : Frame → Pipe → Pipe
sent_pipe f v = record {
  watch = watched v.watch (station.Sent f);
  lane = lane_gone (watch_ends v.watch (station.Sent f)) (is_on Uih v.watch.dlci f && v.watch.own.is_open) f.info v.lane;
  until = v.until;
  held = said_held f v v.held;
  by_driver = said_held f v v.by_driver;
}

abbrev pub flowed_pipe : Frame → Pipe → Pipe
flowed_pipe f v = record {
  watch = watched v.watch (station.Sent f);
  lane = lane_over (watch_ends v.watch (station.Sent f)) v.lane;
  until = v.until;
  held = said_held f v v.held;
  by_driver = v.by_driver;
}

-- the line is lost
abbrev pub lost_pipe : Pipe → Pipe
lost_pipe v = record v { watch = watched v.watch station.Lost; lane = ended_lane v.lane }

-- ## What is answered, of every past

unfoldable pub SaysOver : Pipe → Bool → Type 0
SaysOver v b = (role : Role) (n1 d : ℕ) (past : List Pass) → PipeFits role n1 d v past → b ≡ true ↔ IsOver role d past

unfoldable pub SaysLane : Pipe → Bool → Type 0
SaysLane v b = (role : Role) (n1 d : ℕ) (past : List Pass) → PipeFits role n1 d v past → b ≡ not (is_idle (carries role d past))

unfoldable pub SaysBehind : Pipe → Bool → Type 0
SaysBehind v b = (role : Role) (n1 d : ℕ) (past : List Pass) → PipeFits role n1 d v past → b ≡ is_behind_lines (carries role d past)

unfoldable pub HasUnread : Pipe → Type 0
HasUnread v = (role : Role) (n1 d : ℕ) (past : List Pass) → PipeFits role n1 d v past → (carries role d past ≡ Idle) × (data_read d past ≢ data_came role d past)

unfoldable pub IsShut : Pipe → Type 0
IsShut v = (role : Role) (n1 d : ℕ) (past : List Pass) → PipeFits role n1 d v past → is_open role d (wire past) ≡ false

unfoldable pub TakesNone : Pipe → Type 0
TakesNone v = (role : Role) (n1 d : ℕ) (past : List Pass) → PipeFits role n1 d v past → takes_given (carries role d past) ≡ false

-- this is due to be said of the flow, or nothing is
unfoldable pub SaysFlow : Pipe → Option Bool → Type 0
SaysFlow v (Some go) = (role : Role) (n1 d : ℕ) (past : List Pass) → PipeFits role n1 d v past → IsDue role d past go
SaysFlow v None = (role : Role) (n1 d : ℕ) (past : List Pass) (go : Bool) → PipeFits role n1 d v past → ¬ IsDue role d past go
