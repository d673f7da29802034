-- What calls from C do, said of the endpoint that a driver holds.
use Rattle.std.specs.Prelude.{◌≡◌, ℕ, List, [], ◌++◌, Option, None, Some}
use Rattle.mux_frame.specs.declared.dlci.Dlci.{Dlci}
use Rattle.modem_desk.specs.declared.request.Ask.{Ask}
use Rattle.modem_desk.specs.Ends.{DriverView}
use Rattle.modem_history.specs.Acts.{Act}
use Rattle.modem_history.specs.Sessions.{Beginning, LineView}
use Rattle.modem_driver.specs.Endpoints.{EndpointFits, EndpointState, GivesOctets, MachineSays, Numbers, TakesOctets}
use Rattle.modem_driver.specs.EndpointLaws.{Calls}
use Rattle.modem_driver.specs.WaitingTicks.{waiting_ticks}
use Rattle.modem_driver.specs.EndpointSteps.{with_sent}
use Rattle.modem_driver.specs.declared.endpoint.Blocked.{Blocked}
use Rattle.modem_c.specs.declared.driver.Cimbaloty.{Cimbaloty}

-- ## The driver

-- the endpoint that it holds, if any
abbrev pub endpoint_of : Cimbaloty → Option EndpointState
endpoint_of c = c.handle.held

abbrev pub HoldsSome : Option EndpointState → (EndpointState → Type 0) → Type 0
HoldsSome None p = ⊥
HoldsSome (Some e) p = p e

-- the driver holds an endpoint, and this is true of it
abbrev pub Holds : Cimbaloty → (EndpointState → Type 0) → Type 0
Holds c p = HoldsSome (endpoint_of c) p

-- the driver held an endpoint before, holds one now, and this is true of the two
abbrev pub Goes : (old new : Cimbaloty) → (EndpointState → EndpointState → Type 0) → Type 0
Goes old new p = Holds old (λ e. Holds new (p e))

-- ## Requests

-- a request that asks this of this connection has the next number
pub record NumbersAt (e f : EndpointState) (asks : Dlci → Ask) (dlci n : ℕ) : Type 0 where
  pub connection : Dlci
  pub is_it : connection.number ≡ dlci
  pub numbers : Numbers e f (asks connection) n

-- ## Time

-- by every history that the endpoint fits, how many ticks the first command in hand on this connection has waited, if there is one
abbrev pub HasWaited : EndpointState → ℕ → Option ℕ → Type 0
HasWaited e n ticks =
    (b : Beginning) (l : LineView) (d : DriverView) (past : List Act) → EndpointFits b l d e past → ticks ≡ waiting_ticks n past

-- ## Octets for the line

-- The line took these octets, one part after the other; between the parts frames at hand were handled, and
-- connections held and freed by how many of their lines wait. No other octets came.
pub data GivesOn : LineView → DriverView → EndpointState → EndpointState → List ℕ → Type 0 where
  unmoved : (l : LineView) (d : DriverView) (e : EndpointState) → GivesOn l d e e []
  gave : (l : LineView) (d : DriverView) (e f g : EndpointState) (before octets : List ℕ)
      → GivesOn l d e f before → GivesOctets (with_sent l before) d f g octets → GivesOn l d e g (before ++ octets)
  handled : (l : LineView) (d : DriverView) (e f g : EndpointState) (before : List ℕ) (blocked : Option Blocked)
      → GivesOn l d e f before → TakesOctets (with_sent l before) d f g [] blocked → GivesOn l d e g before

-- What an endpoint answers to input of no octets: nothing blocks it where no frame is at hand; OutputFirst where the frame at
-- hand lacks room; NoMemory where data of an open connection is at hand.
abbrev pub SaysOfFrames : EndpointState → Option Blocked → Type 0
SaysOfFrames e blocked = MachineSays e.machine (Unit {0}) blocked

-- The line took these octets, as `GivesOn` has it. Behind the last of them frames at hand were handled, and connections held
-- and freed, as far as this answer says. The line took no more.
pub record GivesAll (l : LineView) (d : DriverView) (e f : EndpointState) (octets : List ℕ) : Type 0 where
  pub before : EndpointState
  pub between : EndpointState
  pub blocked : Option Blocked
  pub gives : GivesOn l d e before octets
  pub handles : TakesOctets (with_sent l octets) d before between [] blocked
  pub says : SaysOfFrames between blocked
  pub rests : GivesOctets (with_sent l octets) d between f []

-- an output is a sequence of an endpoint's calls, over a line that took its octets
unfoldable pub OutputsAreCalls : Type 0
OutputsAreCalls =
    (l : LineView) (d : DriverView) (e f : EndpointState) (octets : List ℕ) → GivesAll l d e f octets
    → Calls (record { line = l; driver = d; endpoint = e })
    (record { line = with_sent l octets; driver = d; endpoint = f })
