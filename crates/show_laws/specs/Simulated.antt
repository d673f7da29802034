-- A line between a driver and a simulated modem, as a line that these laws speak of.
use Rattle.std.specs.Prelude.{◌≡◌, ℕ, ◌≤◌, true, false, List, [], ◌∷◌, map, reverse}
use Rattle.mux_frame.specs.declared.dlci.Dlci.{Dlci}
use Rattle.mux_capture.specs.declared.packet.Stamp.{Stamp}
use Rattle.mux_station.specs.declared.role.Role.TheVariants.{Responder}
use Rattle.mux_station.specs.Offering.{data_out}
use Rattle.modem_history.specs.Calls.{Setting}
use Rattle.modem_history.specs.TwoEnds.{frames_got, frames_sent}
use Rattle.modem_sim.specs.Acts.{Did, End, Wire, is_open_at_modem}
use Rattle.modem_sim.specs.Outboxes.{outbox}
use Rattle.modem_sim.specs.Pieces.{pieces_octets}
use Rattle.one_modem.specs.OneModem as ends
use Rattle.one_modem.specs.OneModem.{EndAct, IsOneModem}
use Rattle.modem_show.specs.Judging.{faults_from}
use Rattle.modem_show.specs.Rows.{sound}
use Rattle.modem_show.specs.Talking.{is_unfinished, is_unprompted, overlaps}
use Rattle.show_laws.specs.Laws.{OffersText, TakesShortProbes}
use Rattle.show_laws.specs.Lines.{AtDriver, AtModem, LineAct, captured, driver_past, modem_past}
use Rattle.show_laws.specs.Talks.{IsTalkingLine, NoneTells}

-- the line without the steps of the modem's script
abbrev pub as_line : List EndAct → List LineAct
as_line [] = []
as_line (ends.AtDriver a ∷ line) = AtDriver a ∷ as_line line
as_line (ends.AtModem (Wire a) ∷ line) = AtModem a ∷ as_line line
as_line (ends.AtModem (Did step) ∷ line) = as_line line

-- the modem opens no connection, and answers commands alone
unfoldable pub Simulates : Setting → End → List EndAct → Type 0
Simulates s e line = IsOneModem s e line → IsTalkingLine s e.n1 (as_line line)

-- nothing is wrong with any frame of the line, where lines are offered, neither end has a greater N1 than this, and a probe fits
unfoldable pub SoundToModem : Setting → End → List EndAct → Type 0
SoundToModem s e line =
    IsOneModem s e line → OffersText (modem_past (as_line line)) → TakesShortProbes (driver_past (as_line line))
    → (stamps : ℕ → Stamp) (most : ℕ) → 18 ≤ most → s.n1 ≤ most → e.n1 ≤ most
    → faults_from most [] (reverse (captured stamps (as_line line))) ≡ map (λ c. sound) (captured stamps (as_line line))

-- no command overlaps another one there, and no final code answers nothing
unfoldable pub TalksToModem : Setting → End → List EndAct → Type 0
TalksToModem s e line =
    IsOneModem s e line → (stamps : ℕ → Stamp) (data_channels : List Dlci)
    → NoneTells overlaps s.dialect data_channels (captured stamps (as_line line))
    × NoneTells (is_unprompted s.dialect) s.dialect data_channels (captured stamps (as_line line))

-- all that the driver sent has come, and all that the modem says on d, which is open there, has gone out
pub record HasSaidAll (e : End) (d : ℕ) (line : List EndAct) : Type 0 where
  pub came : frames_got (ends.modem_wire line) ≡ frames_sent (ends.driver_wire line)
  pub is_open : is_open_at_modem d (ends.modem_past line) ≡ true
  pub out : data_out Responder d (ends.modem_wire line) ≡ pieces_octets (outbox e d (ends.modem_past line)).said
  pub none_held : (outbox e d (ends.modem_past line)).held ≡ []

-- there no command is left without an answer
unfoldable pub FinishesWithModem : Setting → End → List EndAct → Type 0
FinishesWithModem s e line =
    IsOneModem s e line → (d : ℕ) → HasSaidAll e d line → (stamps : ℕ → Stamp) (data_channels : List Dlci)
    → is_unfinished s.dialect data_channels d (captured stamps (as_line line)) ≡ false
