-- The next command of a connection is handed to the station.
use Rattle.std.specs.Prelude.{◌≡◌, ℕ, ◌≤◌, Bool, true, false, List, [], ◌∷◌, ◌++◌, length, Option, None, Some, option_map}
use Rattle.mux_frame.specs.Frames.{Frame}
use Rattle.mux_station.specs.declared.role.Role.TheVariants.{Initiator}
use Rattle.mux_station.specs.Opening.{is_open}
use Rattle.mux_station.specs.Stations.{Station, setting_of}
use Rattle.at_text.specs.declared.unsolicited.UrcKind.{UrcKind}
use Rattle.modem_desk.specs.declared.request.Request.{Request}
use Rattle.modem_history.specs.Acts.{Act, Got, wire}
use Rattle.modem_history.specs.Information.{line_of}
use Rattle.modem_history.specs.Placing.{marks}
use Rattle.modem_history.specs.Calls.{Setting, first_on}
use Rattle.modem_history.specs.Requests.{commands_on, without_first}
use Rattle.at_text.specs.OpenWindow.{OpenWindow, FitsMarks}
use Rattle.at_text.specs.UnderWay.{window_of}
use Rattle.modem_core.specs.Lanes.{Lane}
use Rattle.modem_core.specs.Cores.{dialect_in, Core, lane_at}
use Rattle.modem_core.specs.CoreGoing.{StandsIn}
use Rattle.modem_core.specs.Offers.{TakesLine}
use Rattle.modem_queues.specs.Hands.{text_or}
use Rattle.modem_queues.specs.Stops.{asker_of}
use Rattle.modem_core.specs.Reports.{Listens, read_each}

-- a command line is offered with its CR
pub record OffersLine (old new : Station) (d : ℕ) (line : List ℕ) : Type 0 where
  pub setting : setting_of new ≡ setting_of old
  pub takes : TakesLine old new d (line ++ 13 ∷ [])
  pub short : length line ≤ 256

abbrev pub HandsOn : Station → Station → ℕ → Option (List ℕ) → Type 0
HandsOn old new d None = new ≡ old
HandsOn old new d (Some line) = OffersLine old new d line

-- a command on d has its answer: it is in hand no more, and the next one is offered
pub record EndsCommand (old new : Core) (d : ℕ) : Type 0 where
  pub station : Station
  pub new_is : new ≡ record old { station = station; hand = without_first (commands_on d) old.hand }
  pub next : HandsOn old.station station d
      (option_map line_of (first_on d (without_first (commands_on d) old.hand)))

-- the core ends the command under way on d where that has its answer, and else stays
abbrev pub EndedBy : Bool → Core → Core → ℕ → Type 0
EndedBy true kept new d = EndsCommand kept new d
EndedBy false kept new d = new ≡ kept

-- the text of the first command on d in hand
abbrev pub text_on : ℕ → List Request → List ℕ
text_on d hand = text_or (option_map line_of (first_on d hand))

-- the window of d, whose command is the first on d in hand, by what a lane keeps
abbrev pub window_by : List Request → ℕ → Lane → Option OpenWindow
window_by hand d lane = window_of (text_on d hand) lane.under_way

-- in each history that a core stands in, while the line isn't lost, the window of d fits what was placed there since d opened
unfoldable pub WindowFits : Core → ℕ → Type 0
WindowFits v d =
    (s : Setting) (past : List Act) → StandsIn s v past → v.lost ≡ false → is_open Initiator d (wire past) ≡ true
    → FitsMarks (dialect_in v) (window_by v.hand d (lane_at v d)) (marks Initiator d past)

-- the lane of the connection, and the acts, once the information is read
unfoldable pub ReadsFrame : Core → Frame → Lane → List Act → Type 0
ReadsFrame v f lane acts =
    (listens : UrcKind → Bool) → Listens listens v.kinds
    → record { kept = lane.kept; window = window_by v.hand f.dlci lane; acts = acts }
    ≡ read_each (dialect_in v) listens f.dlci (option_map asker_of (first_on f.dlci v.hand))
    (record { kept = (lane_at v f.dlci).kept; window = window_by v.hand f.dlci (lane_at v f.dlci); acts = Got f ∷ [] }) f.info
