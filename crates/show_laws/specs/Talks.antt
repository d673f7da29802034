-- What the lines say that pass on a lawful line (V.250, 5.2, 5.7): no command overlaps another one, no final code answers nothing.
use Rattle.std.specs.Prelude.{◌≡◌, ℕ, ◌≤◌, Bool, true, false, List, [], ◌∷◌, ◌++◌, length, filter, is_none}
use Rattle.std.specs.List.{list_any}
use Rattle.mux_frame.specs.declared.dlci.Dlci.{Dlci}
use Rattle.mux_frame.specs.declared.frame.Kind.TheVariants.{Sabm}
use Rattle.mux_capture.specs.declared.packet.Stamp.{Stamp}
use Rattle.mux_capture.specs.Passing.{Caught}
use Rattle.mux_station.specs.declared.role.Role.TheVariants.{Responder}
use Rattle.mux_station.specs.Acts as station
use Rattle.mux_station.specs.Offering.{data_out}
use Rattle.mux_station.specs.Written.{is_kind}
use Rattle.at_text.specs.Commands.{refusal_of}
use Rattle.at_text.specs.Dialects.{Dialect, is_solicited}
use Rattle.at_text.specs.Lines.{lines}
use Rattle.modem_history.specs.Acts.{wire}
use Rattle.modem_history.specs.Calls.{Setting}
use Rattle.modem_history.specs.Connections.{info_got, info_sent, information_got}
use Rattle.modem_history.specs.TwoEnds.{AsksOnce, TakesCommandLines, frames_got, frames_sent}
use Rattle.modem_show.specs.declared.told.Told.{Told}
use Rattle.modem_show.specs.Talking.{is_unfinished, is_unprompted, overlaps, told_in}
use Rattle.show_laws.specs.Lines.{IsLawfulLine, LineAct, captured, driver_past, modem_past}

-- ## Who answers what

-- how many final codes are among lines, without those that are unsolicited, and how many command lines
abbrev pub finals_in : Dialect → List (List ℕ) → ℕ
finals_in dialect ls = length (filter dialect.is_final (filter (is_solicited dialect) ls))

abbrev pub commands_in : List (List ℕ) → ℕ
commands_in ls = length (filter (λ l. is_none (refusal_of l)) ls)

-- on each connection no more final codes were sent since it opened than command lines came on it
abbrev pub AnswersNoMore : Dialect → List station.Act → Type 0
AnswersNoMore dialect past =
    (d : ℕ) → finals_in dialect (lines (data_out Responder d past)) ≤ commands_in (lines (information_got Responder d past))

-- so it is at each point of the past
abbrev pub AnswersCommands : Dialect → List station.Act → Type 0
AnswersCommands dialect [] = Unit {0}
AnswersCommands dialect (a ∷ past) = AnswersNoMore dialect (a ∷ past) × AnswersCommands dialect past

-- no command line is a final code
abbrev pub TellsApart : Dialect → Type 0
TellsApart dialect = (l : List ℕ) → is_none (refusal_of l) ≡ true → dialect.is_final l ≡ false

-- no SABM was sent
abbrev pub OpensNothing : List station.Act → Type 0
OpensNothing past = list_any (λ f. is_kind f.kind Sabm) (frames_sent past) ≡ false

-- A lawful line on which the driver asks for each connection once at most, and the modem opens none. The driver is given command lines, and
-- no command line is a final code of its dialect. The modem answers commands alone.
pub record IsTalkingLine (s : Setting) (n1 : ℕ) (line : List LineAct) : Type 0 where
  pub lawful : IsLawfulLine s n1 line
  pub once : AsksOnce (wire (driver_past line))
  pub opens_none : OpensNothing (modem_past line)
  pub commands : TakesCommandLines (driver_past line)
  pub apart : TellsApart s.dialect
  pub answers : AnswersCommands s.dialect (modem_past line)

-- ## What is told

-- what the lines tell that end in these frames, the newest of which is the first
abbrev pub told_by : Dialect → List Dlci → List Caught → List Told
told_by dialect data_channels [] = []
told_by dialect data_channels (c ∷ line) = told_by dialect data_channels line ++ told_in dialect data_channels line c

-- nothing that is told is wrong in this way
abbrev pub NoneTells : (Told → Bool) → Dialect → List Dlci → List Caught → Type 0
NoneTells wrong dialect data_channels line = list_any wrong (told_by dialect data_channels line) ≡ false

-- no command overlaps another one, and no final code answers nothing
unfoldable pub TalksInTurn : Setting → ℕ → List LineAct → Type 0
TalksInTurn s n1 line =
    IsTalkingLine s n1 line → (stamps : ℕ → Stamp) (data_channels : List Dlci)
    → NoneTells overlaps s.dialect data_channels (captured stamps line)
    × NoneTells (is_unprompted s.dialect) s.dialect data_channels (captured stamps line)

-- ## The end

-- all that the driver sent has come, and of the command lines on d each has its final code, which was sent
pub record HasAnswered (s : Setting) (d : ℕ) (line : List LineAct) : Type 0 where
  pub came : frames_got (modem_past line) ≡ frames_sent (wire (driver_past line))
  pub answered : commands_in (lines (info_got d (modem_past line))) ≤ finals_in s.dialect (lines (info_sent d (modem_past line)))

-- there no command is left without an answer
unfoldable pub FinishesTalk : Setting → ℕ → List LineAct → Type 0
FinishesTalk s n1 line =
    IsTalkingLine s n1 line → (d : ℕ) → HasAnswered s d line → (stamps : ℕ → Stamp) (data_channels : List Dlci)
    → is_unfinished s.dialect data_channels d (captured stamps line) ≡ false
