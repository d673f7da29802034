-- A relay and an endpoint behind it as one value: what its calls come to.
use Rattle.std.specs.Prelude.{◌≡◌, ℕ, Bool, true, false, List, [], ◌∷◌, ◌++◌, ◌≤◌, ◌<◌, length, None}
use Rattle.std.specs.List.{list_all, list_any}
use Rattle.at_text.specs.Dialects.{Dialect}
use Rattle.at_text.specs.declared.unsolicited.UrcKind.{UrcKind}
use Rattle.modem_desk.specs.Ends.{DriverView}
use Rattle.modem_history.specs.Sessions.{LineView}
use Rattle.modem_driver.specs.EndpointLaws.{World, Call}
use Rattle.modem_driver.specs.EndpointSteps.{with_received, with_sent}
use Rattle.modem_driver.specs.Endpoints.{EndpointState, BeginsBy, GivesOctets, HoldsNothingBack}
use Rattle.modem_driver.specs.SessionStates.{beginning_by}
use Rattle.modem_data.specs.Passing.{Pass, Came, Went, Flowed, Left, Lost, Began, EndedLane, Gave, Read}
use Rattle.modem_data.specs.Hops.{Relay, Hop, Fed, Handed, Took, Wrote, Passed, Hops, BeginsRelay, DriverOut, OneOut, fed, handed_over, taken, wrote}
use Rattle.modem_data_endpoint.specs.Beside.{Both, Steps, TellsBoth}
use Rattle.modem_data_endpoint.specs.Joined.{TakesOver}

pub record Pair : Type 0 where
  pub endpoint : EndpointState
  pub relay : Relay

abbrev pub joined : EndpointState → Relay → Pair
joined e r = record { endpoint = e; relay = r }

-- with what the endpoint's line and desk's end saw, and what passed the relay
abbrev pub seen : LineView → DriverView → List Hop → Pair → Both
seen l d past p = record { world = record { line = l; driver = d; endpoint = p.endpoint }; relay = p.relay; hops = past }

-- ## The line

-- octets come from the line, or are given to the driver; frames come
abbrev pub is_inward : Hop → Bool
is_inward (Fed octets) = true
is_inward (Handed octets) = true
is_inward (Passed (Came f)) = true
is_inward _ = false

-- octets come from the driver, or are given to the line; frames go to it
abbrev pub is_outward : Hop → Bool
is_outward (Took octets) = true
is_outward (Wrote octets) = true
is_outward (Passed (Went f)) = true
is_outward (Passed (Flowed f)) = true
is_outward (Passed (Left f)) = true
is_outward _ = false

-- frames of data, and what is said of their flow
abbrev pub is_beside : Hop → Bool
is_beside (Passed (Flowed f)) = true
is_beside (Passed (Left f)) = true
is_beside _ = false

-- These octets came from the line. By some steps frames of it passed, and octets went on to the endpoint; nothing else happened.
pub record CarriesIn (x y : Pair) (octets : List ℕ) : Type 0 where
  pub hops : List Hop
  pub only : list_all is_inward hops ≡ true
  pub fed_are : fed hops ≡ octets
  pub steps : (l : LineView) (d : DriverView) (past : List Hop)
      → Steps (seen l d past x) (seen (with_received l (handed_over hops)) d (hops ++ past) y)

-- no frame of the line is at hand, at the relay or at the endpoint, and nothing waits between the two
pub record TakesAll (x : Pair) : Type 0 where
  pub none_at_relay : x.relay.outer.next ≡ None
  pub none_waits : x.relay.to_driver ≡ []
  pub none_at_hand : x.endpoint.machine.deframer.next ≡ None

-- These octets went to the line. By some steps octets came of the endpoint, and frames passed; nothing else happened. A frame of
-- data left only where nothing that the endpoint has for the line waits, a DISC or CLD among it. It goes on where the endpoint gave
-- some.
pub record CarriesOut (x y : Pair) (octets : List ℕ) (goes_on : Bool) : Type 0 where
  pub hops : List Hop
  pub only : list_all is_outward hops ≡ true
  pub wrote_are : wrote hops ≡ octets
  pub behind_all : list_any is_beside hops ≡ true → HoldsNothingBack y.endpoint
  pub some : goes_on ≡ true → 0 < length (taken hops)
  pub steps : (l : LineView) (d : DriverView) (past : List Hop)
      → Steps (seen l d past x) (seen (with_sent l (taken hops)) d (hops ++ past) y)

-- The next octets for the line are made to wait: an octet of the endpoint's came, and the driver's frame with it, if it was whole; or
-- one of the driver's is before; or the endpoint has none, and a frame of the relay's own may go.
pub data NextOut (x y : Pair) : (goes_on : Bool) → Type 0 where
  took_one : (between : Relay) → TakesOver x.relay between x.endpoint y.endpoint → DriverOut between y.relay → NextOut x y true
  relay_first : y.endpoint ≡ x.endpoint → DriverOut x.relay y.relay → NextOut x y false
  none_behind : ((l : LineView) (d : DriverView) → GivesOctets l d x.endpoint y.endpoint [])
      → HoldsNothingBack y.endpoint → OneOut x.relay y.relay → NextOut x y false

-- ## Calls

-- a call of the lanes
abbrev pub is_of_lanes : Pass → Bool
is_of_lanes Lost = true
is_of_lanes (Began d how until) = true
is_of_lanes (EndedLane d) = true
is_of_lanes (Gave d octets) = true
is_of_lanes (Read d octets) = true
is_of_lanes _ = false

-- One call by its clause: of the line, of the endpoint alone, or of the lanes alone.
pub data PairCall : Both → Both → Type 0 where
  took_line : (l : LineView) (d : DriverView) (past : List Hop) (x y : Pair) (octets : List ℕ) (h : CarriesIn x y octets)
      → PairCall (seen l d past x) (seen (with_received l (handed_over h.hops)) d (h.hops ++ past) y)
  gave_line : (l : LineView) (d : DriverView) (past : List Hop) (x y : Pair) (octets : List ℕ) (more : Bool) (h : CarriesOut x y octets more)
      → PairCall (seen l d past x) (seen (with_sent l (taken h.hops)) d (h.hops ++ past) y)
  of_endpoint : (w v : World) (r : Relay) (past : List Hop) → Call w v → v.line.received ≡ w.line.received
      → v.line.sent ≡ w.line.sent
      → PairCall (record { world = w; relay = r; hops = past }) (record { world = v; relay = r; hops = past })
  of_lanes : (w : World) (r s : Relay) (past : List Hop) (a : Pass) → is_of_lanes a ≡ true → Hops r s (Passed a)
      → PairCall (record { world = w; relay = r; hops = past }) (record { world = w; relay = s; hops = Passed a ∷ past })

-- calls, one after the other
pub data PairCalls : Both → Both → Type 0 where
  no_call : (x : Both) → PairCalls x x
  more_calls : (x y z : Both) → PairCalls x y → PairCall y z → PairCalls x z

-- The law: of one sequence of calls there is one history of the endpoint and one past of the relay, as `TellsBoth` says.
unfoldable pub PairLaw : Type 0
PairLaw =
    (dialect : Dialect) (n1 : ℕ) (ds : List ℕ) (kinds : List UrcKind) (x y : Both) → x.world.driver.desk.kinds ≡ kinds
    → 1 ≤ length x.world.driver.desk.rings → n1 ≤ 32767 → BeginsBy dialect n1 kinds x.world.endpoint
    → BeginsRelay n1 ds x.relay → x.hops ≡ [] → PairCalls x y
    → TellsBoth n1 ds (beginning_by dialect n1 x.world.line x.world.driver) y
