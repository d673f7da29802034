-- A driver and a simulated modem at the two ends of one line: what the modem reads, and how its answers are told
-- (27.010, 5.4; V.250, 5.2, 5.7).
use Rattle.std.specs.Prelude.{◌≡◌, ℕ, List, [], ◌∷◌, ◌++◌, length}
use Rattle.mux_station.specs.Acts as station
use Rattle.mux_station.specs.declared.role.Role.TheVariants.{Initiator}
use Rattle.at_text.specs.declared.answer.AnswerLine.{AnswerLine}
use Rattle.at_text.specs.Dialects.{standard}
use Rattle.modem_desk.specs.declared.request.Answer.TheVariants.{Done}
use Rattle.modem_desk.specs.declared.request.Outcome.{Outcome}
use Rattle.modem_history.specs.Acts as driver
use Rattle.modem_history.specs.Acts.{Told}
use Rattle.modem_history.specs.Calls.{Setting}
use Rattle.modem_history.specs.Connections.{lines_on}
use Rattle.modem_history.specs.Information.{line_of}
use Rattle.modem_history.specs.Lawful as driver_laws
use Rattle.modem_history.specs.TwoEnds.{AsksOnce, ComesInOrder, IsAmong, TakesCommandLines, commands_sent}
use Rattle.modem_history.specs.Wholes.{CompleteCalls, HasOwnAnswer, UsesOnce, taken_requests}
use Rattle.modem_sim.specs.Acts as modem
use Rattle.modem_sim.specs.Acts.{End}
use Rattle.modem_sim.specs.Heard.{heard, texts_of}
use Rattle.modem_sim.specs.Histories as modem_laws
use Rattle.modem_sim.specs.Laws.{after_lines}
use Rattle.modem_sim.specs.Replied.{AnnouncesUnsolicited, IsModem}
use Rattle.modem_sim.specs.LineSteps.{step}

-- ## One line

-- an act at one of the two ends
pub data EndAct : Type 0 where
  AtDriver : driver.Act → EndAct
  AtModem : modem.Act → EndAct

-- the part of each end (newest act first), and what its station has of it
abbrev pub driver_past : List EndAct → List driver.Act
driver_past [] = []
driver_past (AtDriver a ∷ line) = a ∷ driver_past line
driver_past (AtModem a ∷ line) = driver_past line

abbrev pub modem_past : List EndAct → List modem.Act
modem_past [] = []
modem_past (AtDriver a ∷ line) = modem_past line
modem_past (AtModem a ∷ line) = a ∷ modem_past line

abbrev pub driver_wire : List EndAct → List station.Act
driver_wire line = driver.wire (driver_past line)

abbrev pub modem_wire : List EndAct → List station.Act
modem_wire line = modem.wire (modem_past line)

-- the frames that came at each end are the first that the other sent
pub record ComesBothWays (line : List EndAct) : Type 0 where
  pub at_modem : ComesInOrder (driver_wire line) (modem_wire line)
  pub at_driver : ComesInOrder (modem_wire line) (driver_wire line)

-- `ComesBothWays` holds at every point of the line
abbrev pub IsOneLine : List EndAct → Type 0
IsOneLine [] = Unit {0}
IsOneLine (a ∷ line) = ComesBothWays (a ∷ line) × IsOneLine line

-- A driver of a standard modem: it keeps its laws, its calls are complete, it takes command lines, and no caller uses a
-- number twice. A modem: it keeps its laws, and announces unsolicited lines alone. One line between them, on which each
-- connection is asked for at most once.
pub record IsOneModem (s : Setting) (e : End) (line : List EndAct) : Type 0 where
  pub is_initiator : s.role ≡ Initiator
  pub codes : s.dialect ≡ standard
  pub driver_lawful : driver_laws.Lawful s (driver_past line)
  pub calls : CompleteCalls s (driver_past line)
  pub numbers : UsesOnce (taken_requests (driver_past line))
  pub commands : TakesCommandLines (driver_past line)
  pub modem_lawful : modem_laws.SimLawful e (modem_past line)
  pub modem_is : IsModem e.modem
  pub announced : AnnouncesUnsolicited (modem_past line)
  pub one_line : IsOneLine line
  pub once : AsksOnce (driver_wire line)

-- ## Laws

-- the lines that the modem reads, over all connections, are commands that the driver was given, each on its
-- connection, in the order in which they were wholly sent
unfoldable pub ReadsCommands : Setting → End → List EndAct → Type 0
ReadsCommands s e line =
    IsOneModem s e line → IsAmong (heard (modem_past line)) (commands_sent (driver_past line))

-- Among these lines stands this command on d, behind as many on d as its place says. The answer is what the modem's
-- step gives there, run over all lines before it.
pub record IsAnswerAt (e : End) (ls : List (ℕ × List ℕ)) (d place : ℕ) (command : List ℕ)
    (answer : List AnswerLine) : Type 0 where
  pub before : List (ℕ × List ℕ)
  pub later : List (ℕ × List ℕ)
  pub joins : ls ≡ before ++ (d, command) ∷ later
  pub place_is : length (lines_on d before) ≡ place
  pub answer_is : answer ≡ (step (after_lines e.modem (texts_of before)) command).answer

-- the answer is that of the request's own command, which the modem read at its place, behind as many as were
-- accepted before it on its connection
pub record IsModemAnswer (s : Setting) (e : End) (ls : List (ℕ × List ℕ)) (past : List driver.Act)
    (o : Outcome) (answer : List AnswerLine) : Type 0 where
  pub own : HasOwnAnswer s past o answer
  pub modem_gave : IsAnswerAt e ls own.frame.dlci (length own.owns.before) (line_of own.request) answer

-- each command told Done was read, and is told what the modem answered to it there
unfoldable pub TellsModem : Setting → End → List EndAct → Type 0
TellsModem s e line =
    IsOneModem s e line
    → (newer older : List driver.Act) (o : Outcome) (answer : List AnswerLine)
    → driver_past line ≡ newer ++ Told o ∷ older → o.answer ≡ Done answer
    → IsModemAnswer s e (heard (modem_past line)) older o answer
