-- What passes between a relay and the endpoint behind it, and commands on a connection that carries data.
use Rattle.std.specs.Prelude.{◌≡◌, ◌↔◌, ℕ, ◌<◌, true, List, [], ◌∷◌, length, Option, None}
use Rattle.mux_frame.specs.declared.dlci.Dlci.{Dlci}
use Rattle.at_text.specs.declared.command.CommandLine.{CommandLine}
use Rattle.modem_desk.specs.Ends.{DriverView}
use Rattle.modem_desk.specs.declared.request.Ask.TheVariants as Ask
use Rattle.modem_history.specs.Sessions.{LineView}
use Rattle.modem_driver.specs.EndpointSteps.{with_received, with_sent}
use Rattle.modem_driver.specs.Endpoints.{EndpointState, GivesOctets, IsFull, Refuses, TakesOctets}
use Rattle.modem_driver.specs.declared.endpoint.Blocked.{Blocked}
use Rattle.modem_driver.specs.declared.endpoint.error.RequestError.TheVariants as why
use Rattle.modem_data.specs.Switching.{is_behind_lines}
use Rattle.modem_data.specs.Passing.{carries}
use Rattle.modem_data.specs.PipeSets.{OfEachPast}
use Rattle.modem_data.specs.Hops.{Relay, Hop, Handed, Took, Hops}
use Rattle.modem_data_endpoint.specs.declared.between.CommandRefused.{CommandRefused}
use Rattle.modem_data_endpoint.specs.declared.between.CommandRefused.TheVariants as refused
use Rattle.modem_data_endpoint.specs.Beside.{Step}

-- these octets went from the relay to the endpoint, all that waited where nothing blocks it
pub record HandsOver (r s : Relay) (e f : EndpointState) (blocked : Option Blocked) : Type 0 where
  pub octets : List ℕ
  pub handed : Hops r s (Handed octets)
  pub takes : (l : LineView) (d : DriverView) → TakesOctets l d e f octets blocked
  pub all : blocked ≡ None → octets ≡ r.to_driver
  pub none_waits : blocked ≡ None → s.to_driver ≡ []
  pub none_at_hand : blocked ≡ None → f.machine.deframer.next ≡ None
  pub same : s.outer ≡ r.outer

-- these octets went from the endpoint to the relay, at which no frame of the driver's waited
pub record TakesOver (r s : Relay) (e f : EndpointState) : Type 0 where
  pub octets : List ℕ
  pub some : 0 < length octets
  pub none_at_hand : r.inner.next ≡ None
  pub gives : (l : LineView) (d : DriverView) → GivesOctets l d e f octets
  pub took : Hops r s (Took octets)

-- a command is refused, and handed back: data is under way on its connection; or the endpoint refuses it
abbrev pub RefusesCommand : Relay → (e f : EndpointState) → Dlci → CommandLine → CommandRefused → Type 0
RefusesCommand r e f dlci line (refused.CarriesData back) =
    (back ≡ line) × ((f ≡ e) × OfEachPast r.pipes (λ role past. true ≡ is_behind_lines (carries role dlci.number past)))
RefusesCommand r e f dlci line (refused.Request q) =
    (q.ask ≡ Ask.Command dlci line) × (Refuses e f × ((q.why ≡ why.Full) ↔ IsFull f))

-- each is a step of the two
unfoldable pub HandsAreSteps : Type 0
HandsAreSteps =
    (l : LineView) (d : DriverView) (r s : Relay) (hops : List Hop) (e f : EndpointState) (blocked : Option Blocked)
    (h : HandsOver r s e f blocked)
    → Step (record { world = record { line = l; driver = d; endpoint = e }; relay = r; hops = hops })
    (record { world = record { line = with_received l h.octets; driver = d; endpoint = f }; relay = s; hops = Handed h.octets ∷ hops })

unfoldable pub TakesAreSteps : Type 0
TakesAreSteps =
    (l : LineView) (d : DriverView) (r s : Relay) (hops : List Hop) (e f : EndpointState) (h : TakesOver r s e f)
    → Step (record { world = record { line = l; driver = d; endpoint = e }; relay = r; hops = hops })
    (record { world = record { line = with_sent l h.octets; driver = d; endpoint = f }; relay = s; hops = Took h.octets ∷ hops })
