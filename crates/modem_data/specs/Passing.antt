-- What passes the connections that carry data, between the line and a driver: a past is written newest first.
use Rattle.std.specs.Prelude.{◌≡◌, ℕ, ◌+◌, ◌-◌, ◌≤◌, ◌==◌, ◌&&◌, not, nat_le, nat_lt, Bool, true, false, IsTrue, List, [], ◌∷◌, ◌++◌, length, Option, Some, None, filter_map, if◌then◌else◌, unwrap_or}
use Rattle.mux_frame.specs.Frames.{Frame}
use Rattle.mux_frame.specs.declared.frame.Kind.TheVariants.{Uih}
use Rattle.mux_station.specs.declared.role.Role.{Role}
use Rattle.mux_station.specs.Acts as station
use Rattle.mux_station.specs.Opening.{is_open, opens_now}
use Rattle.mux_station.specs.Stopping.{got_says, msc_says}
use Rattle.mux_station.specs.Tables.{msc_frame, ready, held_up}
use Rattle.mux_station.specs.Written.{is_on, written}
use Rattle.modem_data.specs.declared.begin.Begin.{Begin}
use Rattle.modem_data.specs.declared.begin.Begin.TheVariants.{AtOnce, ByConnect, ByPrompt, ByOwnConnect}
use Rattle.modem_data.specs.declared.begin.Until.{Until}
use Rattle.modem_data.specs.declared.begin.Until.TheVariants.{Close, CarrierLoss}
use Rattle.modem_data.specs.Switching.{Carries, Idle, Lines, Data, Prompts, Owns, is_idle, lets_leave, takes_given, ended_by_call, without_carrier, data_of, carries_after, carries_sent}
use Rattle.modem_data.specs.DataLanes.{most_to_go}
use Rattle.modem_data.specs.Watching.{may_leave, ends_now, loses_carrier}

-- what happens: a frame comes from the line; one goes from the driver to the line, one of the relay's own, or one of data;
-- the line is lost; a lane of a connection begins, at once, by a CONNECT line, by a prompt or by a CONNECT line of the driver's own, until
-- its opening ends or the carrier is lost, or is ended between two frames;
-- octets are given to be sent there; octets of its data are read
pub data Pass : Type 0 where
  Came : Frame → Pass
  Went : Frame → Pass
  Flowed : Frame → Pass
  Left : Frame → Pass
  Lost : Pass
  Began : ℕ → (how : Begin) → (until : Until) → Pass
  EndedLane : ℕ → Pass
  Gave : ℕ → List ℕ → Pass
  Read : ℕ → List ℕ → Pass

-- what happens on the line
abbrev pub wire_act : Pass → Option station.Act
wire_act (Came f) = Some (station.Got f)
wire_act (Went f) = Some (station.Sent f)
wire_act (Flowed f) = Some (station.Sent f)
wire_act (Left f) = Some (station.Sent f)
wire_act Lost = Some station.Lost
wire_act _ = None

abbrev pub wire : List Pass → List station.Act
wire past = filter_map wire_act past

-- ## Lanes

-- the frame is information on d, which is open
abbrev pub is_info : Role → ℕ → List Pass → Frame → Bool
is_info role d past f = is_on Uih d f && is_open role d (wire past)

-- the act opens d; the act ends an opening of d
abbrev pub opens_here : Role → ℕ → List Pass → station.Act → Bool
opens_here role d past a = opens_now role d (wire past) a

abbrev pub ends_here : Role → ℕ → List Pass → station.Act → Bool
ends_here role d past a = ends_now role d (wire past) a

-- what a lane carries at its beginning
abbrev pub begin_of : Begin → Carries
begin_of AtOnce = Data
begin_of ByConnect = Lines []
begin_of ByPrompt = Prompts true
begin_of ByOwnConnect = Owns []

-- until when the lane of d lasts that began last
abbrev pub until_of : ℕ → List Pass → Until
until_of d [] = Close
until_of d (Began e how until ∷ past) = if e == d then until else until_of d past
until_of d (_ ∷ past) = until_of d past

abbrev pub is_by_carrier : Until → Bool
is_by_carrier Close = false
is_by_carrier CarrierLoss = true

-- the frame takes the carrier of d, which the lane of d lasts until
abbrev pub drops_here : Role → ℕ → List Pass → Frame → Bool
drops_here role d past f = is_by_carrier (until_of d past) && loses_carrier role d (wire past) (station.Got f)

-- what d carries behind a frame that came
abbrev pub carries_behind : (info_here ending dropping : Bool) → Carries → List ℕ → Carries
carries_behind true ending dropping c info = carries_after c info
carries_behind false true dropping c info = Idle
carries_behind false false true c info = without_carrier c
carries_behind false false false c info = c

-- behind a frame of the driver's that went
abbrev pub carries_gone : (ending info_here : Bool) → Carries → List ℕ → Carries
carries_gone true info_here c info = Idle
carries_gone false true c info = carries_sent c info
carries_gone false false c info = c

-- What d carries: nothing but the driver's, until a lane begins. It turns to data behind its first CONNECT line, the other end's or the
-- driver's own, or to a text behind its first prompt. It is over where an opening of d ends, the line is lost, or it is ended; and by the
-- carrier, if it lasts until that is lost, where data or a text is under way: a modem's DV may fall while it dials.
abbrev pub carries : Role → ℕ → List Pass → Carries
carries role d [] = Idle
carries role d (Came f ∷ past) =
    carries_behind (is_info role d past f) (ends_here role d past (station.Got f)) (drops_here role d past f) (carries role d past) f.info
carries role d (Went f ∷ past) =
    carries_gone (ends_here role d past (station.Sent f)) (is_info role d past f) (carries role d past) f.info
carries role d (Flowed f ∷ past) = if ends_here role d past (station.Sent f) then Idle else carries role d past
carries role d (Lost ∷ past) = Idle
carries role d (Began e how until ∷ past) = if e == d then begin_of how else carries role d past
carries role d (EndedLane e ∷ past) = if e == d then ended_by_call (carries role d past) else carries role d past
carries role d (_ ∷ past) = carries role d past

-- the frame is information of a lane
abbrev pub is_data : Role → ℕ → List Pass → Frame → Bool
is_data role d past f = is_info role d past f && not (is_idle (carries role d past))

-- ## In

-- the data that came on d since the lane began, and what was read of it
abbrev pub data_came : Role → ℕ → List Pass → List ℕ
data_came role d [] = []
data_came role d (Came f ∷ past) =
    if is_info role d past f then data_came role d past ++ data_of (carries role d past) f.info else data_came role d past
data_came role d (Began e how until ∷ past) = if e == d then [] else data_came role d past
data_came role d (_ ∷ past) = data_came role d past

abbrev pub data_read : ℕ → List Pass → List ℕ
data_read d [] = []
data_read d (Read e octets ∷ past) = if e == d then data_read d past ++ octets else data_read d past
data_read d (Began e how until ∷ past) = if e == d then [] else data_read d past
data_read d (_ ∷ past) = data_read d past

-- the lane of d is over, and all of its data was read
pub record IsOver (role : Role) (d : ℕ) (past : List Pass) : Type 0 where
  pub idle : carries role d past ≡ Idle
  pub all_read : data_read d past ≡ data_came role d past

-- ## Out

-- what was given since the lane began, and what left since then
abbrev pub given : ℕ → List Pass → List ℕ
given d [] = []
given d (Gave e octets ∷ past) = if e == d then given d past ++ octets else given d past
given d (Began e how until ∷ past) = if e == d then [] else given d past
given d (_ ∷ past) = given d past

abbrev pub left : ℕ → List Pass → List ℕ
left d [] = []
left d (Left f ∷ past) = if f.dlci == d then left d past ++ f.info else left d past
left d (Began e how until ∷ past) = if e == d then [] else left d past
left d (_ ∷ past) = left d past

-- how many octets of data wait to leave
abbrev pub to_go : ℕ → List Pass → ℕ
to_go d past = length (given d past) - length (left d past)

-- ## Flow of data that comes (27.010, 5.4.6.3.7)

-- the last MSC for d that went since d opened, whoever's, said that the other end may not go on; the driver's last one did
abbrev pub holds : Role → ℕ → List Pass → Bool
holds role d [] = false
holds role d (Came f ∷ past) = if opens_here role d past (station.Got f) then false else holds role d past
holds role d (Went f ∷ past) = unwrap_or (got_says (msc_says d) (station.Got f)) (holds role d past)
holds role d (Flowed f ∷ past) = unwrap_or (got_says (msc_says d) (station.Got f)) (holds role d past)
holds role d (_ ∷ past) = holds role d past

abbrev pub driver_holds : Role → ℕ → List Pass → Bool
driver_holds role d [] = false
driver_holds role d (Came f ∷ past) = if opens_here role d past (station.Got f) then false else driver_holds role d past
driver_holds role d (Went f ∷ past) = unwrap_or (got_says (msc_says d) (station.Got f)) (driver_holds role d past)
driver_holds role d (_ ∷ past) = driver_holds role d past

-- how many octets of data wait to be read
abbrev pub unread : Role → ℕ → List Pass → ℕ
unread role d past = length (data_came role d past) - length (data_read d past)

-- how many of them hold d back: none behind the end of a lane, since lines are to come then
abbrev pub waiting : Role → ℕ → List Pass → ℕ
waiting role d past = if is_idle (carries role d past) then 0 else unread role d past

-- What is to be said: stop, where 8192 octets wait; go on, where fewer than 4096 do, unless the driver holds d by its lines.
abbrev pub flow_by : (held by_driver : Bool) → (waiting : ℕ) → Option Bool
flow_by false by_driver waiting = if nat_le 8192 waiting then Some false else None
flow_by true true waiting = None
flow_by true false waiting = if nat_lt waiting 4096 then Some true else None

-- the MSC that says so
abbrev pub flow_frame : Role → ℕ → (go : Bool) → Frame
flow_frame role d go = msc_frame role d (if go then ready else held_up)

-- d is open, and this is to be said of it
pub record IsDue (role : Role) (d : ℕ) (past : List Pass) (go : Bool) : Type 0 where
  pub open_there : is_open role d (wire past) ≡ true
  pub due : flow_by (holds role d past) (driver_holds role d past) (waiting role d past) ≡ Some go

-- ## The laws

-- data or a text leaves a connection that lets it, is open and isn't stopped, as this end writes it, with 1 to N1 octets: the next
-- of those given since its lane began
pub record Leaves (role : Role) (n1 : ℕ) (past : List Pass) (f : Frame) : Type 0 where
  pub lets : lets_leave (carries role f.dlci past) ≡ true
  pub may : may_leave role f.dlci (wire past) ≡ true
  pub as_written : f ≡ written role Uih f.dlci f.info
  pub some : IsTrue (nat_le 1 (length f.info))
  pub fits : IsTrue (nat_le (length f.info) n1)
  pub later : List ℕ
  pub is_next : given f.dlci past ≡ left f.dlci past ++ (f.info ++ later)

-- the relay says what is due of the flow
pub record Flows (role : Role) (past : List Pass) (f : Frame) : Type 0 where
  pub dlci : ℕ
  pub go : Bool
  pub is_due : IsDue role dlci past go
  pub as_written : f ≡ flow_frame role dlci go

-- octets are given where d is open and takes them, and no more wait than may
pub record Gives (role : Role) (d : ℕ) (past : List Pass) (octets : List ℕ) : Type 0 where
  pub open_there : is_open role d (wire past) ≡ true
  pub takes : takes_given (carries role d past) ≡ true
  pub few : length (given d past) + length octets ≤ length (left d past) + most_to_go

-- data is read in its order
pub record Reads (role : Role) (d : ℕ) (past : List Pass) (octets : List ℕ) : Type 0 where
  pub later : List ℕ
  pub is_next : data_came role d past ≡ data_read d past ++ (octets ++ later)

-- each act was allowed after those before it: a lane begins where the last one is over
abbrev pub AllowsPass : Role → ℕ → List Pass → Pass → Type 0
AllowsPass role n1 past (Left f) = Leaves role n1 past f
AllowsPass role n1 past (Flowed f) = Flows role past f
AllowsPass role n1 past (Began d how until) = IsOver role d past
AllowsPass role n1 past (Gave d octets) = Gives role d past octets
AllowsPass role n1 past (Read d octets) = Reads role d past octets
AllowsPass role n1 past _ = Unit {0}

unfoldable pub LawfulPasses : Role → ℕ → List Pass → Type 0
LawfulPasses role n1 [] = Unit {0}
LawfulPasses role n1 (a ∷ past) = AllowsPass role n1 past a × LawfulPasses role n1 past
