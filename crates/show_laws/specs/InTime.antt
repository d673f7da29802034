-- Lines on which each control command comes in time (27.010, 5.4.6.3.3): 0 is opened once, and closed by a CLD alone.
use Rattle.std.specs.Prelude.{◌≡◌, ℕ, ◌==◌, Bool, false, List, [], ◌∷◌}
use Rattle.std.specs.List.{list_any}
use Rattle.mux_frame.specs.declared.frame.Kind.TheVariants.{Disc}
use Rattle.mux_station.specs.declared.role.Role.{Role}
use Rattle.mux_station.specs.declared.role.Role.TheVariants.{Initiator, Responder}
use Rattle.mux_station.specs.Acts as station
use Rattle.mux_station.specs.Sending.{StationSetting, is_loss, owed_frames}
use Rattle.mux_station.specs.States.{State, IsStopping, state_of}
use Rattle.mux_station.specs.Written.{is_on}
use Rattle.modem_history.specs.Acts.{wire}
use Rattle.modem_history.specs.Calls.{Setting, is_lost}
use Rattle.modem_history.specs.TwoEnds.{AsksOnce, frames_sent}
use Rattle.show_laws.specs.Lines.{IsLawfulLine, LineAct, ReadsInTime, StopsAsking, driver_past, modem_past, responding}
use Rattle.show_laws.specs.Talks.{OpensNothing}

-- all that an act calls for was sent before the next one
abbrev pub IsPrompt : StationSetting → List station.Act → Type 0
IsPrompt s [] = Unit {0}
IsPrompt s (station.Sent f ∷ past) = IsPrompt s past
IsPrompt s (station.Given ∷ past) = IsPrompt s past
IsPrompt s (a ∷ past) = (owed_frames s past ≡ []) × IsPrompt s past

-- a stop that the next tick gives up
abbrev pub is_last : State → Bool
is_last (IsStopping n) = n == 3
is_last _ = false

-- no stop was given up
abbrev pub KeepsStops : Role → List station.Act → Type 0
KeepsStops r [] = Unit {0}
KeepsStops r (station.Tick ∷ past) = (is_last (state_of r 0 past) ≡ false) × KeepsStops r past
KeepsStops r (_ ∷ past) = KeepsStops r past

-- no DISC on 0 was sent
abbrev pub ClosesByDown : List station.Act → Type 0
ClosesByDown past = list_any (is_on Disc 0) (frames_sent past) ≡ false

-- Each connection is asked for once, and the modem opens none, and does at once what each act calls for. 0 is closed by CLD alone, no stop is
-- given up, and the line isn't lost.
pub record IsCalmLine (s : Setting) (n1 : ℕ) (line : List LineAct) : Type 0 where
  pub lawful : IsLawfulLine s n1 line
  pub once : AsksOnce (wire (driver_past line))
  pub opens_none : OpensNothing (modem_past line)
  pub prompt : IsPrompt (responding n1) (modem_past line)
  pub driver_down : ClosesByDown (wire (driver_past line))
  pub modem_down : ClosesByDown (modem_past line)
  pub driver_keeps : KeepsStops Initiator (wire (driver_past line))
  pub modem_keeps : KeepsStops Responder (modem_past line)
  pub driver_live : is_lost (driver_past line) ≡ false
  pub modem_live : list_any is_loss (modem_past line) ≡ false

-- there each control command comes in time, and the modem sends none behind a CLD or the response to one
pub record CommandsInTime (line : List LineAct) : Type 0 where
  pub at_driver : ReadsInTime Initiator (wire (driver_past line))
  pub at_modem : ReadsInTime Responder (modem_past line)
  pub by_modem : StopsAsking (frames_sent (modem_past line))

unfoldable pub AsksInTime : Setting → ℕ → List LineAct → Type 0
AsksInTime s n1 line = IsCalmLine s n1 line → CommandsInTime line
