-- What a backlog of lines calls for, and what a core knows of which connections are held.
use Rattle.std.specs.Prelude.{◌≡◌, ℕ, ◌<◌, ◌==◌, ◌&&◌, ◌||◌, not, nat_le, nat_lt, Bool, true, false, List, [], ◌∷◌, Option, Some, None, if◌then◌else◌}
use Rattle.mux_station.specs.declared.role.Role.TheVariants.{Initiator}
use Rattle.mux_station.specs.Opening.{is_open}
use Rattle.mux_station.specs.States.{is_opened}
use Rattle.mux_station.specs.Tables.{by_flow, msc_frame, ready, held_up}
use Rattle.mux_station.specs.Stations.{channel_at}
use Rattle.modem_history.specs.Limits.{holding_lines, freeing_lines}
use Rattle.modem_history.specs.Acts.{Act, Sent, Held, Freed, wire, after}
use Rattle.modem_history.specs.Holding.{last_held, is_held}
use Rattle.modem_history.specs.Calls.{Setting, seen, is_lost, all_have_room}
use Rattle.modem_core.specs.CoreGoing.{StandsIn, gone_on}
use Rattle.modem_history.specs.GoingOut.{after_out}
use Rattle.modem_core.specs.Cores.{Core, Fits, IsRun, IsSettingOf, MayCome, GoesOn, lane_at}

-- what so many waiting lines call for: to hold an open connection from 256 on, to free it below 128
abbrev pub flow_due : (opened : Bool) → (held : Bool) → (lines : ℕ) → Option Bool
flow_due opened held lines =
    if not opened then None
    else if not held && nat_le holding_lines lines then Some false
    else if held && nat_lt lines freeing_lines then Some true
    else None

-- the act of holding or freeing d
abbrev pub flow_act : ℕ → (go : Bool) → Act
flow_act d true = Freed d
flow_act d false = Held d

-- the acts of holding or freeing a connection: it is marked, and an MSC goes into the control queue
abbrev pub acts_due : ℕ → (go : Option Bool) → List Act
acts_due d None = []
acts_due d (Some go) = flow_act d go ∷ Sent (msc_frame Initiator d (if go then ready else held_up)) ∷ []

-- what a backlog calls for; nothing after a loss of the line, and nothing on connection 0
abbrev pub due_by : Setting → List Act → ℕ → (lines : ℕ) → Option Bool
due_by s past d lines =
    if is_lost past || (d == 0) then None
    else flow_due (is_open s.role d (wire past)) (is_held s.role d past) lines

-- whether a backlog calls for holding or freeing d, by what a core keeps
abbrev pub due_in : Core → ℕ → ℕ → Option Bool
due_in v d lines =
    if v.lost || (d == 0) then None
    else flow_due (is_opened (channel_at v.station d).state) (lane_at v d).held lines

-- the lanes know which connections are held
pub record HoldsFit (v : Core) (past : List Act) : Type 0 where
  pub held_are : (d : ℕ) → d < 62 → (d == 0) ≡ false → is_open Initiator d (wire past) ≡ true
      → last_held Initiator d past ≡ (lane_at v d).held

-- a past after which a core may be asked
pub record MayAsk (s : Setting) (v : Core) (past : List Act) : Type 0 where
  pub setting : IsSettingOf s v
  pub fits : Fits v past
  pub holds : HoldsFit v past
  pub run : IsRun s past

-- the acts that are called for, and the core fits them
abbrev pub FlowsOn : Setting → Core → Core → List Act → ℕ → Option Bool → List Act → Type 0
FlowsOn s old new past d None acts = (acts ≡ []) × (new ≡ old)
FlowsOn s old new past d (Some go) acts =
    GoesOn s new past (flow_act d go) acts × HoldsFit new (after past acts)

-- in every setting and past that the core fits, a backlog leads to what it calls for there
unfoldable pub Flows : Core → Core → ℕ → (lines : ℕ) → List Act → Type 0
Flows old new d lines acts =
    (s : Setting) (past : List Act) → MayAsk s old past
    → FlowsOn s old new past d (due_by s past d lines) acts

-- the MSC of holding or freeing d has a place in the control queue
abbrev pub has_flow_room : Setting → List Act → ℕ → (go : Bool) → Bool
has_flow_room s past d go =
    all_have_room s (seen s past) (by_flow s.role (seen s past).state d (if go then ready else held_up))

-- the frame that is called for has no place in the control queue
abbrev pub LacksRoom : Setting → List Act → ℕ → Option Bool → Type 0
LacksRoom s past d None = ⊥
LacksRoom s past d (Some go) = has_flow_room s past d go ≡ false

-- a frame is called for, and has a place in the control queue
abbrev pub HasPlace : Setting → List Act → ℕ → Option Bool → Type 0
HasPlace s past d None = ⊥
HasPlace s past d (Some go) = has_flow_room s past d go ≡ true

-- what a backlog calls for has no place in the control queue, by every past
unfoldable pub HasNoRoom : Core → ℕ → (lines : ℕ) → Type 0
HasNoRoom v d lines =
    (s : Setting) (past : List Act) → MayAsk s v past → LacksRoom s past d (due_by s past d lines)

-- a backlog calls for an MSC, which has a place in the control queue, by every past
unfoldable pub FindsRoom : Core → ℕ → (lines : ℕ) → Type 0
FindsRoom v d lines =
    (s : Setting) (past : List Act) → MayAsk s v past → HasPlace s past d (due_by s past d lines)

-- fewer than 256 waiting lines call for nothing, on any connection
unfoldable pub CallsForNothing : Core → Type 0
CallsForNothing v = (d lines : ℕ) → d < 62 → lines < holding_lines → Flows v v d lines []

-- no backlog of d calls for anything
unfoldable pub NeverDue : Core → ℕ → Type 0
NeverDue v d = (s : Setting) (past : List Act) (lines : ℕ) → MayAsk s v past → due_by s past d lines ≡ None

-- in every setting and past that the core fits, the connection is held or freed
unfoldable pub TurnsFlow : Core → Core → ℕ → (go : Bool) → List Act → Type 0
TurnsFlow old new d go acts =
    (s : Setting) (past : List Act) → MayAsk s old past
    → GoesOn s new past (flow_act d go) acts × HoldsFit new (after past acts)

-- the MSC that would hold or free d has no place in the control queue
unfoldable pub CannotTurn : Core → ℕ → (go : Bool) → Type 0
CannotTurn v d go = (s : Setting) (past : List Act) → MayAsk s v past → LacksRoom s past d (Some go)

-- the MSC that holds or frees d has a place in the control queue
unfoldable pub CanTurn : Core → ℕ → (go : Bool) → Type 0
CanTurn v d go = (s : Setting) (past : List Act) → MayAsk s v past → HasPlace s past d (Some go)

-- after a call that begins with this act the lanes still know which connections are held
unfoldable pub KeepsHeld : Core → Core → Act → List Act → Type 0
KeepsHeld old new a acts =
    (s : Setting) (past : List Act) → MayCome s old past a → HoldsFit old past
    → HoldsFit new (after past acts)

-- after the next frame has gone out the lanes still know which connections are held
unfoldable pub KeepsHeldOut : Core → Type 0
KeepsHeldOut v =
    (s : Setting) (past : List Act) → StandsIn s v past → HoldsFit v past
    → HoldsFit (gone_on v) (after_out s past)
