-- What a sequence of an endpoint's calls comes to.
use Rattle.std.specs.Prelude.{◌≡◌, ◌≤◌, ℕ, List, length, Option}
use Rattle.at_text.specs.Dialects.{Dialect}
use Rattle.at_text.specs.declared.unsolicited.UrcKind.{UrcKind}
use Rattle.modem_desk.specs.declared.request.Ask.{Ask}
use Rattle.modem_desk.specs.declared.request.Outcome.{Outcome}
use Rattle.modem_desk.specs.declared.request.Urc.{Urc}
use Rattle.modem_desk.specs.Ends.{DriverView}
use Rattle.modem_history.specs.Acts.{Act, after}
use Rattle.modem_history.specs.Sessions.{Beginning, LineView, SessionFits}
use Rattle.modem_driver.specs.Endpoints.{EndpointState, EndpointFits, AnnouncesOne, BeginsBy, GivesLine, GivesOctets, GivesOutcome, HandlesAlone, Loses, Numbers, TakesOctets, TellsOne, Ticks, with_failure, with_taken}
use Rattle.modem_driver.specs.EndpointSteps.{with_received, with_sent}
use Rattle.modem_driver.specs.SessionStates.{beginning_by, seen_by, end_of}
use Rattle.modem_driver.specs.declared.endpoint.Blocked.{Blocked}

-- ## A call

-- a line and a desk's end that saw it all, and the endpoint
pub record World : Type 0 where
  pub line : LineView
  pub driver : DriverView
  pub endpoint : EndpointState

-- one call by its clause: what the line gave and took, what the desk's end took, told and announced, is what the
-- call took and gave
pub data Call : World → World → Type 0 where
  gave_octets : (l : LineView) (d : DriverView) (e f : EndpointState) (octets : List ℕ) → GivesOctets l d e f octets
      → Call (record { line = l; driver = d; endpoint = e })
      (record { line = with_sent l octets; driver = d; endpoint = f })
  took_octets : (l : LineView) (d : DriverView) (e f : EndpointState) (octets : List ℕ) (blocked : Option Blocked)
      → TakesOctets l d e f octets blocked
      → Call (record { line = l; driver = d; endpoint = e })
      (record { line = with_received l octets; driver = d; endpoint = f })
  took_request : (l : LineView) (d : DriverView) (e f : EndpointState) (ask : Ask) (n : ℕ) → Numbers e f ask n
      → Call (record { line = l; driver = d; endpoint = e })
      (record { line = l; driver = with_taken d (record { caller = 0; number = n; ask = ask }); endpoint = f })
  refused : (l : LineView) (d : DriverView) (e f : EndpointState) → HandlesAlone l d e f
      → Call (record { line = l; driver = d; endpoint = e }) (record { line = l; driver = d; endpoint = f })
  ticked : (l : LineView) (d : DriverView) (e f : EndpointState) → Ticks l d e f
      → Call (record { line = l; driver = d; endpoint = e }) (record { line = l; driver = d; endpoint = f })
  lost : (l : LineView) (d : DriverView) (e f : EndpointState) → Loses l d e f
      → Call (record { line = l; driver = d; endpoint = e })
      (record { line = with_failure l; driver = d; endpoint = f })
  gave_outcome : (l : LineView) (d c : DriverView) (e f : EndpointState) (o : Outcome) → TellsOne o d c
      → GivesOutcome e f o
      → Call (record { line = l; driver = d; endpoint = e }) (record { line = l; driver = c; endpoint = f })
  gave_line : (l : LineView) (d c : DriverView) (e f : EndpointState) (u : Urc) → AnnouncesOne u d c
      → GivesLine e f u
      → Call (record { line = l; driver = d; endpoint = e }) (record { line = l; driver = c; endpoint = f })

-- calls, one after the other
pub data Calls : World → World → Type 0 where
  none_called : (w : World) → Calls w w
  called_more : (w v u : World) → Calls w v → Call v u → Calls w u

-- ## The law

-- the history went on, and fits
pub record WentOn (b : Beginning) (w : World) (past : List Act) : Type 0 where
  pub acts : List Act
  pub fits : EndpointFits b w.line w.driver w.endpoint (after past acts)

-- One history: any history that fits before some calls goes on, by some acts, to one that fits after them. The desk's
-- end has a caller 0.
unfoldable pub OneHistory : Type 0
OneHistory =
    (b : Beginning) (w v : World) (past : List Act) → 1 ≤ length w.driver.desk.rings
    → EndpointFits b w.line w.driver w.endpoint past → Calls w v → WentOn b v past

-- a history of the endpoint and of what its line and its desk's end saw since it began, as a session has one
pub record HasAll (b : Beginning) (v : World) : Type 0 where
  pub past : List Act
  pub fits : SessionFits b (seen_by v.line (end_of v.driver) v.endpoint.machine) past

-- The law: one history tells all of an endpoint that was begun, whatever calls followed: what a session fits. So it has a loss only
-- where a call on the line failed. The desk's end listens to its kinds and has a caller 0.
unfoldable pub TellsAll : Type 0
TellsAll =
    (dialect : Dialect) (n1 : ℕ) (kinds : List UrcKind) (w v : World) → w.driver.desk.kinds ≡ kinds
    → 1 ≤ length w.driver.desk.rings → BeginsBy dialect n1 kinds w.endpoint → Calls w v
    → HasAll (beginning_by dialect n1 w.line w.driver) v
