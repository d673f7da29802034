-- A command line enters the send ring of its connection.
use Rattle.std.specs.Prelude.{◌≡◌, ℕ, ◌==◌, ◌||◌, not, nat_le, length, is_some, Bool, true, false, List, Option, Some, None, if◌then◌else◌}
use Rattle.std.specs.List.{list_any}
use Rattle.mux_frame.specs.declared.dlci.Dlci.{Dlci}
use Rattle.mux_station.specs.Acts.{Offer, Called}
use Rattle.mux_station.specs.States.{is_opened}
use Rattle.mux_station.specs.Stations.{Station, channel_at, setting_of, offer_refused}
use Rattle.mux_station.specs.Fitting.{StationHandles}
use Rattle.modem_desk.specs.declared.request.Ask.{Ask}
use Rattle.modem_desk.specs.declared.request.Ask.TheVariants.{Command}
use Rattle.modem_desk.specs.declared.request.Request.{Request}
use Rattle.modem_desk.specs.declared.request.Answer.{Answer}
use Rattle.modem_desk.specs.declared.request.Answer.TheVariants.{NotOpen, ControlChannel}
use Rattle.modem_history.specs.Limits.{most_in_hand}
use Rattle.modem_history.specs.Requests.{commands_on}
use Rattle.modem_core.specs.Cores.{Core}

-- what a command is told at once by the state of its connection
abbrev pub refused_command : Station → ℕ → Option Answer
refused_command v d =
    if d == 0 then Some ControlChannel
    else if not (is_opened (channel_at v d).state) then Some NotOpen
    else None

-- the connection of a command that goes into hand and isn't told at once
abbrev pub sends_on : Core → Ask → Option Dlci
sends_on v (Command d line) =
    if v.lost || (nat_le most_in_hand (length v.hand) || is_some (refused_command v.station d.number)) then None else Some d
sends_on v _ = None

-- the station was offered a line with its CR
pub record TakesLine (old new : Station) (d : ℕ) (line : List ℕ) : Type 0 where
  pub taken : offer_refused old d line ≡ None → StationHandles old new (Called (Offer d line))

abbrev pub Enters : Bool → Station → Station → ℕ → List ℕ → Type 0
Enters true old new d line = new ≡ old
Enters false old new d line = TakesLine old new d line

-- a command's line is offered with its CR where no other command of its connection is in hand
pub record OffersFirstCommand (hand : List Request) (old new : Station) (d : ℕ) (line : List ℕ) : Type 0 where
  pub setting : setting_of new ≡ setting_of old
  pub enters : Enters (list_any (commands_on d) hand) old new d line
