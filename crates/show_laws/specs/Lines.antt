-- A line between a driver and a modem that keeps the responder's tables, and what a capture has of it (27.010, 5.4).
use Rattle.std.specs.Prelude.{◌≡◌, ℕ, ◌||◌, Bool, true, false, List, [], ◌∷◌, length, reverse, if◌then◌else◌}
use Rattle.std.specs.List.{list_any}
use Rattle.mux_frame.specs.Frames.{Frame}
use Rattle.mux_capture.specs.declared.packet.Direction.{Direction}
use Rattle.mux_capture.specs.declared.packet.Direction.TheVariants.{ToModem, FromModem}
use Rattle.mux_capture.specs.declared.packet.Stamp.{Stamp}
use Rattle.mux_capture.specs.Passing.{Caught}
use Rattle.mux_station.specs.declared.role.Role.{Role}
use Rattle.mux_station.specs.declared.role.Role.TheVariants.{Initiator, Responder}
use Rattle.mux_station.specs.Acts as station
use Rattle.mux_station.specs.Sending.{StationSetting, StationLawful, StationComplete, is_loss}
use Rattle.mux_station.specs.Messages.{brings_command, brings_response, cld, message_in}
use Rattle.mux_station.specs.Opening.{is_open}
use Rattle.mux_station.specs.States.{is_stopping, state_of}
use Rattle.modem_history.specs.Acts as driver
use Rattle.modem_history.specs.Acts.{wire}
use Rattle.modem_history.specs.Calls.{Setting, is_lost}
use Rattle.modem_history.specs.Lawful.{Lawful, Complete}
use Rattle.modem_history.specs.TwoEnds.{ComesInOrder, frames_got, frames_sent}
use Rattle.modem_show.specs.declared.rule.Rule.{Rule}
use Rattle.modem_show.specs.Asking.{message_asks}
use Rattle.modem_show.specs.Judging.{faults_from}
use Rattle.modem_show.specs.Rules.{breaks}
use Rattle.modem_show.specs.Ways.{caught}

-- ## The line

-- an act at one of the two ends: at the driver, or at the station of the modem
pub data LineAct : Type 0 where
  AtDriver : driver.Act → LineAct
  AtModem : station.Act → LineAct

-- the past of each end (newest act first)
abbrev pub driver_past : List LineAct → List driver.Act
driver_past [] = []
driver_past (AtDriver a ∷ line) = a ∷ driver_past line
driver_past (AtModem a ∷ line) = driver_past line

abbrev pub modem_past : List LineAct → List station.Act
modem_past [] = []
modem_past (AtDriver a ∷ line) = modem_past line
modem_past (AtModem a ∷ line) = a ∷ modem_past line

-- the frames that came at each end are the first that the other sent
pub record ComesBothWays (line : List LineAct) : Type 0 where
  pub at_modem : ComesInOrder (wire (driver_past line)) (modem_past line)
  pub at_driver : ComesInOrder (modem_past line) (wire (driver_past line))

-- `ComesBothWays` holds at every point of the line
abbrev pub IsOneLine : List LineAct → Type 0
IsOneLine [] = Unit {0}
IsOneLine (a ∷ line) = ComesBothWays (a ∷ line) × IsOneLine line

-- the setting of a modem's station: it is the responder
abbrev pub responding : ℕ → StationSetting
responding n1 = record { role = Responder; n1 = n1 }

-- a driver that keeps its laws, a modem with this N1 that keeps the responder's tables, and one line between them
pub record IsLawfulLine (s : Setting) (n1 : ℕ) (line : List LineAct) : Type 0 where
  pub is_initiator : s.role ≡ Initiator
  pub driver_lawful : Lawful s (driver_past line)
  pub modem_lawful : StationLawful (responding n1) (modem_past line)
  pub one_line : IsOneLine line

-- ## Its capture

-- one frame more, with the stamp of its place
abbrev pub stamped : (ℕ → Stamp) → Direction → Frame → List Caught → List Caught
stamped stamps direction f before = caught (stamps (length before)) direction f ∷ before

-- The frames that both ends sent, the newest first, in the order in which they sent them, each with the stamp of its place. A capture
-- that meets frames later on their way is that of another line at whose ends the same happens.
abbrev pub captured : (ℕ → Stamp) → List LineAct → List Caught
captured stamps [] = []
captured stamps (AtDriver (driver.Sent f) ∷ line) = stamped stamps ToModem f (captured stamps line)
captured stamps (AtDriver _ ∷ line) = captured stamps line
captured stamps (AtModem (station.Sent f) ∷ line) = stamped stamps FromModem f (captured stamps line)
captured stamps (AtModem _ ∷ line) = captured stamps line

-- none of these frames, the newest of which is the first, breaks the rule
abbrev pub NoneBreaks : Rule → ℕ → List Caught → Type 0
NoneBreaks rule n1 line = list_any (λ f. breaks f rule) (faults_from n1 [] (reverse line)) ≡ false

-- ## Its end

-- a control command may come now: 0 is open, or this end has closed down, a CLD while the end waits for the response to its own
abbrev pub is_in_time : Role → Frame → List station.Act → Bool
is_in_time r f past =
    is_open r 0 past
    || (if brings_command cld f then is_stopping (state_of r 0 past) else list_any (brings_command cld) (frames_sent past))

-- each control command that comes to an end comes so
abbrev pub ReadsInTime : Role → List station.Act → Type 0
ReadsInTime r [] = Unit {0}
ReadsInTime r (station.Got f ∷ past) = (message_asks (message_in f) ≡ true → is_in_time r f past ≡ true) × ReadsInTime r past
ReadsInTime r (_ ∷ past) = ReadsInTime r past

-- each comes while 0 is open there: neither end has closed down before it
abbrev pub ReadsWhileOpen : Role → List station.Act → Type 0
ReadsWhileOpen r [] = Unit {0}
ReadsWhileOpen r (station.Got f ∷ past) = (message_asks (message_in f) ≡ true → is_open r 0 past ≡ true) × ReadsWhileOpen r past
ReadsWhileOpen r (_ ∷ past) = ReadsWhileOpen r past

-- a CLD, or the response to one
abbrev pub closes : Frame → Bool
closes f = brings_command cld f || brings_response cld f

-- of the frames that an end sent, the newest first, none behind such a one is a control command
abbrev pub StopsAsking : List Frame → Type 0
StopsAsking [] = Unit {0}
StopsAsking (f ∷ older) = (message_asks (message_in f) ≡ true → list_any closes older ≡ false) × StopsAsking older

-- nothing is under way: the line wasn't lost, nothing is owed, and all that was sent has come
pub record IsDone (s : Setting) (n1 : ℕ) (line : List LineAct) : Type 0 where
  pub driver_live : is_lost (driver_past line) ≡ false
  pub modem_live : list_any is_loss (modem_past line) ≡ false
  pub driver_complete : Complete s (driver_past line)
  pub modem_complete : StationComplete (responding n1) (modem_past line)
  pub at_driver : frames_got (wire (driver_past line)) ≡ frames_sent (modem_past line)
  pub at_modem : frames_got (modem_past line) ≡ frames_sent (wire (driver_past line))
