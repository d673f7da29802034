-- What any calls of a line with its relay come to, and a session over it.
use Rattle.std.specs.Prelude.{◌≡◌, ℕ, ◌≤◌, Bool, List, []}
use Rattle.mux_station.specs.declared.role.Role.{Role}
use Rattle.mux_station.specs.declared.role.Role.TheVariants.{Initiator}
use Rattle.modem_history.specs.Acts.{Act}
use Rattle.modem_history.specs.Sessions.{Beginning, SessionFits, SessionView}
use Rattle.serial_line.specs.LineViews.{LineView}
use Rattle.modem_data.specs.Passing.{Pass}
use Rattle.modem_data.specs.Hops.{Relay, Hop, Passed, Hops, BeginsAs}
use Rattle.modem_data_endpoint.specs.Beside.{TellsFrames}
use Rattle.modem_data_line.specs.DataLines.{DataLineState, new_data_line, Before, LineFits, LeadsBy, TakesBy}

-- One call by its clauses: a read of the driver's, a flush, or a call that fails; a write of the driver's; a call of the lanes.
pub data LineCall {X : Type 0} (look : X → LineView) (old new : DataLineState X) : Type 0 where
  led : (kind : Hop → Bool) → LeadsBy look kind old new → LineCall look old new
  took : (octets : List ℕ) → TakesBy look octets old new → LineCall look old new
  of_lanes : (a : Pass) → Hops old.relay new.relay (Passed a) → new ≡ record old { relay = new.relay } → LineCall look old new

-- calls, one after the other
pub data LineCalls {X : Type 0} (look : X → LineView) : DataLineState X → DataLineState X → Type 0 where
  no_call : (v : DataLineState X) → LineCalls look v v
  more_calls : (u v w : DataLineState X) → LineCalls look u v → LineCall look v w → LineCalls look u w

-- what a line had given and taken
abbrev pub before_of : {X : Type 0} (look : X → LineView) → X → Before
before_of look line = record { received = (look line).received; sent = (look line).sent }

-- there is a past of the relay that it fits
pub record HasPast {X : Type 0} (look : X → LineView) (role : Role) (n1 : ℕ) (ds : List ℕ) (b : Before) (v : DataLineState X) : Type 0 where
  pub past : List Hop
  pub fits : LineFits look role n1 ds b v past

-- Any calls of a new line with a new relay have one past.
unfoldable pub HaveOnePast : {X : Type 0} (look : X → LineView) → Type 0
HaveOnePast {X} look =
    (role : Role) (n1 : ℕ) (ds : List ℕ) (line : X) (relay : Relay) (v : DataLineState X) → BeginsAs role n1 ds relay
    → LineCalls look (new_data_line line relay) v → HasPast look role n1 ds (before_of look line) v

-- A session that began with this line has one history (`laws::sessions` of modem_driver), of what it read and wrote here. The frames of
-- this history are those of the line itself but data, as `TellsFrames` says.
unfoldable pub TellsSession : {X : Type 0} (look : X → LineView) → Type 0
TellsSession {X} look =
    (n1 : ℕ) (ds : List ℕ) (before : Before) (b : Beginning) (s : SessionView) (v : DataLineState X) (past : List Act) (hops : List Hop)
    → n1 ≤ 32767 → b.n1 ≡ n1 → b.line.received ≡ [] → b.line.sent ≡ [] → s.line.received ≡ v.received → s.line.sent ≡ v.sent
    → SessionFits b s past → LineFits look Initiator n1 ds before v hops → TellsFrames n1 s v.relay hops past
