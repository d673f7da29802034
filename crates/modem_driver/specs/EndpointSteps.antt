-- The steps of an endpoint: what is kept goes on, whatever line and desk's end there are.
use Rattle.std.specs.Prelude.{◌≡◌, ℕ, Bool, true, false, List, [], ◌++◌, None, Some}
use Rattle.std.specs.List.{list_all}
use Rattle.mux_frame.specs.Frames.{Frame}
use Rattle.modem_desk.specs.declared.request.Urc.{Urc}
use Rattle.modem_desk.specs.Ends.{DriverView}
use Rattle.modem_history.specs.Acts.{Act, Sent}
use Rattle.modem_history.specs.GoingOut.{next_out}
use Rattle.modem_history.specs.Sessions.{Beginning, LineView, driving}
use Rattle.modem_history.specs.Turns.{has_room_for, is_mark, may_act}
use Rattle.modem_core.specs.Running.{CoreIsIdle}
use Rattle.modem_driver.specs.SessionStates.{Machine, MachineMoves}
use Rattle.modem_driver.specs.TurnSteps.{TurnState, StandingFits, turn_state, Leads}

-- ## Lines

-- a line that took these octets more
abbrev pub with_sent : LineView → List ℕ → LineView
with_sent l octets = record l { sent = l.sent ++ octets }

-- a line that gave these octets more
abbrev pub with_received : LineView → List ℕ → LineView
with_received l octets = record l { received = l.received ++ octets }

-- ## Acts

-- data is sent, or a control frame given on
abbrev pub goes_out : Act → Bool
goes_out (Sent f) = true
goes_out a = is_mark a

-- By some acts old goes on to new, whatever history there was. None of the acts is a tick or a loss of the line, or
-- holds or frees a connection.
pub record Passes (old new : TurnState) : Type 0 where
  pub acts : List Act
  pub leads : Leads old new acts
  pub may : (waiting : List Urc) (b : Beginning) (past : List Act) → StandingFits b old past
      → list_all (may_act waiting) acts ≡ true

-- by some acts frames go out, whatever history there was
pub record GoesOut (old new : TurnState) : Type 0 where
  pub acts : List Act
  pub leads : Leads old new acts
  pub are_out : (b : Beginning) (past : List Act) → StandingFits b old past → list_all goes_out acts ≡ true

-- ## Octets that go out

-- an endpoint gave these octets, the first of those that waited for the line
unfoldable pub CopiesOut : (old new : Machine) → List ℕ → Type 0
CopiesOut old new octets = (l : LineView) → MachineMoves l (with_sent l octets) old new

-- by some acts these octets went out
unfoldable pub GivesOut : (old new : Machine) → List ℕ → Type 0
GivesOut old new octets =
    (l : LineView) (d : DriverView) → GoesOut (turn_state l d old) (turn_state (with_sent l octets) d new)

-- No octets wait, and no frame: the control queue is empty or the line is lost, and no history has a frame
-- that is to go out.
pub record IsDrained (s : TurnState) : Type 0 where
  pub written : s.machine.unwritten ≡ []
  pub idle : CoreIsIdle s.machine.core
  pub none_left : (b : Beginning) (past : List Act) → StandingFits b s past → next_out (driving b) past ≡ None

-- nothing waits for the line, whatever line and desk's end there are
unfoldable pub MachineIsDrained : Machine → Type 0
MachineIsDrained k = (l : LineView) (d : DriverView) → IsDrained (turn_state l d k)

-- ## Octets that come

-- an endpoint took these octets, and its deframer has them
unfoldable pub FeedsFrom : (old new : Machine) → List ℕ → Type 0
FeedsFrom old new octets = (l : LineView) → MachineMoves l (with_received l octets) old new

-- by some acts these octets came
unfoldable pub TakesFrom : (old new : Machine) → List ℕ → Type 0
TakesFrom old new octets =
    (l : LineView) (d : DriverView) → Passes (turn_state l d old) (turn_state (with_received l octets) d new)

-- by some acts frames at hand were handled
unfoldable pub HandlesFrames : (old new : Machine) → Type 0
HandlesFrames old new = (l : LineView) (d : DriverView) → Passes (turn_state l d old) (turn_state l d new)

-- there is no room for what this frame calls for, and something is left to go out
pub record LacksRoomFor (s : TurnState) (f : Frame) : Type 0 where
  pub busy : ¬ CoreIsIdle s.machine.core
  pub full : (b : Beginning) (past : List Act) → StandingFits b s past → has_room_for b past f ≡ false

-- a frame at hand lacks room
unfoldable pub HandLacksRoom : Machine → Type 0
HandLacksRoom k =
    (l : LineView) (d : DriverView) (f : Frame) → k.deframer.next ≡ Some f → LacksRoomFor (turn_state l d k) f
