-- A relay and an endpoint behind it: what a sequence of their calls comes to.
use Rattle.std.specs.Prelude.{◌≡◌, ℕ, ◌≤◌, Bool, true, false, List, [], ◌∷◌, ◌++◌, length, All, None}
use Rattle.mux_frame.specs.Laws.{AreOctets, GoesOn, HasSpelling}
use Rattle.mux_frame.specs.Deframing.{Deframing}
use Rattle.mux_frame.specs.Frames.{Frame}
use Rattle.at_text.specs.Dialects.{Dialect}
use Rattle.at_text.specs.declared.unsolicited.UrcKind.{UrcKind}
use Rattle.modem_history.specs.Acts.{Act}
use Rattle.modem_history.specs.Sessions.{Beginning, SessionFits, SessionView, gots, given_on}
use Rattle.modem_driver.specs.EndpointLaws.{World, Call}
use Rattle.modem_driver.specs.Endpoints.{BeginsBy}
use Rattle.modem_driver.specs.SessionStates.{beginning_by, end_of, seen_by}
use Rattle.mux_station.specs.declared.role.Role.{Role}
use Rattle.mux_station.specs.declared.role.Role.TheVariants.{Initiator}
use Rattle.modem_data.specs.Hops.{Relay, RelayFits, Hop, Handed, Took, Hops, LineIn, BeginsRelay, handed_over, taken, for_driver, went}

-- an endpoint with its line and its desk's end, and a relay with what passed it
pub record Both : Type 0 where
  pub world : World
  pub relay : Relay
  pub hops : List Hop

-- octets go from the relay to the driver, or from the driver to it
abbrev pub is_joint : Hop → Bool
is_joint (Handed octets) = true
is_joint (Took octets) = true
is_joint _ = false

-- One call: of the endpoint alone; of the relay alone, by one hop or, of octets of the line, by several; or of both, where what the endpoint's line gave is what the relay handed over,
-- or what its line took is what the relay took.
pub data Step : Both → Both → Type 0 where
  called : (w v : World) (r : Relay) (hops : List Hop) → Call w v → v.line.received ≡ w.line.received
      → v.line.sent ≡ w.line.sent
      → Step (record { world = w; relay = r; hops = hops }) (record { world = v; relay = r; hops = hops })
  relayed : (w : World) (r s : Relay) (hops : List Hop) (a : Hop) → is_joint a ≡ false → Hops r s a
      → Step (record { world = w; relay = r; hops = hops }) (record { world = w; relay = s; hops = a ∷ hops })
  came_in : (w : World) (r s : Relay) (hops : List Hop) (octets : List ℕ) (h : LineIn r s octets)
      → Step (record { world = w; relay = r; hops = hops }) (record { world = w; relay = s; hops = h.hops ++ hops })
  gave_in : (w v : World) (r s : Relay) (hops : List Hop) (octets : List ℕ) → Call w v
      → v.line.received ≡ w.line.received ++ octets → v.line.sent ≡ w.line.sent → Hops r s (Handed octets)
      → Step (record { world = w; relay = r; hops = hops }) (record { world = v; relay = s; hops = Handed octets ∷ hops })
  took_out : (w v : World) (r s : Relay) (hops : List Hop) (octets : List ℕ) → Call w v
      → v.line.received ≡ w.line.received → v.line.sent ≡ w.line.sent ++ octets → Hops r s (Took octets)
      → Step (record { world = w; relay = r; hops = hops }) (record { world = v; relay = s; hops = Took octets ∷ hops })

pub data Steps : Both → Both → Type 0 where
  no_step : (x : Both) → Steps x x
  more_steps : (x y z : Both) → Steps x y → Step y z → Steps x z

-- what the endpoint's line gave since the beginning is what the relay handed over; what it took is what the relay took
pub record IsJoined (b : Beginning) (x : Both) : Type 0 where
  pub received_are : x.world.line.received ≡ b.line.received ++ handed_over x.hops
  pub sent_are : x.world.line.sent ≡ b.line.sent ++ taken x.hops

-- what waits on the way is octets
pub record AreOctetsWaiting (x : Both) : Type 0 where
  pub aside : AreOctets x.world.endpoint.machine.unfed
  pub on_way : AreOctets x.relay.to_driver

-- nothing waits between the relay and the frames that the history got
pub record IsThrough (x : Both) : Type 0 where
  pub none_on_way : x.relay.to_driver ≡ []
  pub none_aside : x.world.endpoint.machine.unfed ≡ []
  pub none_at_hand : x.world.endpoint.machine.deframer.next ≡ None

-- nothing waits between the frames that the history gave on and those that went to the line
pub record IsOut (x : Both) : Type 0 where
  pub none_unwritten : x.world.endpoint.machine.unwritten ≡ []
  pub none_at_hand : x.relay.inner.next ≡ None

-- each of the frames has a spelling
abbrev pub AreSpelled : ℕ → List Frame → Type 0
AreSpelled n1 fs = All (HasSpelling n1) fs

-- What stands behind a relay at its end of the line read what the relay handed over, of which the last octets wait for its deframer, and
-- wrote what the relay took, behind which others wait. The frames that it got are the first of those due to it, and all of them where
-- nothing waits on the way. Its frames that went to the line are the first of those that it gave on, and all of them where none waits.
pub record TellsBehind (role : Role) (n1 : ℕ) (unfed : List ℕ) (d : Deframing) (unwritten : List ℕ) (r : Relay) (hops : List Hop) (got given : List Frame) : Type 0 where
  pub got_are : AreOctets unfed → AreOctets r.to_driver → GoesOn got (for_driver role hops)
  pub all_got : unfed ≡ [] → r.to_driver ≡ [] → d.next ≡ None → got ≡ for_driver role hops
  pub went_are : AreSpelled n1 given → AreOctets unwritten → GoesOn (went hops) given
  pub all_went : AreSpelled n1 given → unwritten ≡ [] → r.inner.next ≡ None → went hops ≡ given

-- A driver with this history stands behind a relay at the client's end of the line.
abbrev pub TellsFrames : ℕ → SessionView → Relay → List Hop → List Act → Type 0
TellsFrames n1 v r hops past = TellsBehind Initiator n1 v.unfed v.deframer v.unwritten r hops (gots past) (given_on past)

-- One history tells all of the endpoint, and the relay fits what passed it. The frames that the history got are the first of those due
-- to the driver: the frames of the line but data. Those of the driver's that went to the line are the first of those that the history
-- gave on.
pub record TellsBoth (n1 : ℕ) (ds : List ℕ) (b : Beginning) (x : Both) : Type 0 where
  pub past : List Act
  pub fits : SessionFits b (seen_by x.world.line (end_of x.world.driver) x.world.endpoint.machine) past
  pub relay_fits : RelayFits Initiator n1 ds x.relay x.hops
  pub joined : IsJoined b x
  pub got_are : AreOctetsWaiting x → GoesOn (gots past) (for_driver Initiator x.hops)
  pub all_got : IsThrough x → gots past ≡ for_driver Initiator x.hops
  pub went_are : AreSpelled n1 (given_on past) → AreOctets x.world.endpoint.machine.unwritten
      → GoesOn (went x.hops) (given_on past)
  pub all_went : AreSpelled n1 (given_on past) → IsOut x → went x.hops ≡ given_on past

-- The law, of a relay and an endpoint that were begun with this N1, whatever calls followed.
unfoldable pub DataLaw : Type 0
DataLaw =
    (dialect : Dialect) (n1 : ℕ) (ds : List ℕ) (kinds : List UrcKind) (x y : Both) → x.world.driver.desk.kinds ≡ kinds
    → 1 ≤ length x.world.driver.desk.rings → n1 ≤ 32767 → BeginsBy dialect n1 kinds x.world.endpoint
    → BeginsRelay n1 ds x.relay → x.hops ≡ [] → Steps x y
    → TellsBoth n1 ds (beginning_by dialect n1 x.world.line x.world.driver) y
