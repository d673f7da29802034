-- Worked lines with a driver and a simulated modem at their ends, N1 31.
use Rattle.std.specs.Prelude.{ℕ, List, [], ◌∷◌, ◌++◌, codes}
use Rattle.mux_frame.specs.declared.frame.Kind.TheVariants.{Sabm, Ua, Uih}
use Rattle.mux_station.specs.declared.role.Role.TheVariants.{Responder}
use Rattle.mux_station.specs.Acts as station
use Rattle.mux_station.specs.Messages.{response_of}
use Rattle.mux_station.specs.Messages.{msc as msc_type}
use Rattle.mux_station.specs.Tables.{message_frame, msc_frame, ready}
use Rattle.at_text.specs.Seeing.{answer_lines}
use Rattle.at_text.specs.declared.unsolicited.UrcKind.TheVariants.{Ring}
use Rattle.modem_desk.specs.declared.request.Ask.TheVariants.{OpenChannel, Command}
use Rattle.modem_desk.specs.declared.request.Answer.TheVariants.{Opened}
use Rattle.modem_history.specs.Acts as driver
use Rattle.modem_history.specs.Acts.{Heard, Given}
use Rattle.modem_history.specs.Calls.{replaying}
use Rattle.modem_history.specs.Rows as row
use Rattle.modem_history.specs.Rows.{takes, tells, tells_done, zero, one}
use Rattle.modem_sim.specs.Acts as modem
use Rattle.modem_sim.specs.Acts.{End, Wire, Did}
use Rattle.modem_sim.specs.declared.script.StepAct.TheVariants.{Announce}
use Rattle.modem_sim.specs.Heard.{heard}
use Rattle.modem_sim.specs.HistoryRows as sim
use Rattle.modem_sim.specs.HistoryRows.{announcing, asks, comes, gives, offers, sends}
use Rattle.modem_sim.specs.Pieces.{framed}
use Rattle.one_modem.specs.OneModem.{AtDriver, AtModem, EndAct, IsAnswerAt, IsOneLine, IsOneModem, modem_past}

-- the line after these acts, of which the first comes first
abbrev pub after : List EndAct → List EndAct → List EndAct
after line [] = line
after line (a ∷ acts) = after (a ∷ line) acts

abbrev pub at_driver : List driver.Act → List EndAct
at_driver [] = []
at_driver (a ∷ acts) = AtDriver a ∷ at_driver acts

abbrev pub at_modem : List modem.Act → List EndAct
at_modem [] = []
at_modem (a ∷ acts) = AtModem a ∷ at_modem acts

-- ## A right line

-- 0 and 1 are opened
abbrev pub opened : List EndAct
opened =
    at_driver (takes 1 (OpenChannel zero) ∷ row.sends Sabm 0 [] ∷ Given ∷ [])
    ++ at_modem (comes Sabm 0 [] ∷ sends Ua 0 [] ∷ gives ∷ [])
    ++ at_driver
    (row.comes Ua 0 [] ∷ tells 1 Opened ∷ takes 2 (OpenChannel one) ∷ row.sends Sabm 1 [] ∷ Given ∷ [])
    ++ at_modem
    (comes Sabm 1 [] ∷ sends Ua 1 [] ∷ Wire (station.Sent (msc_frame Responder 1 ready)) ∷ gives ∷ gives
    ∷ [])
    ++ at_driver (row.comes Ua 1 [] ∷ row.sends Uih 0 (row.msc_command 1 0x8d) ∷ tells 2 Opened ∷ Given ∷ [])
    ++ at_driver
    (row.comes Uih 0 (row.msc_command 1 0x8d) ∷ row.sends Uih 0 (row.msc_response 1 0x8d) ∷ Given ∷ [])
    ++ at_modem
    (comes Uih 0 (row.msc_command 1 0x8d)
    ∷ Wire (station.Sent (message_frame Responder (response_of msc_type) (7 ∷ 0x8d ∷ []))) ∷ gives ∷ [])
    ++ at_modem (comes Uih 0 (row.msc_response 1 0x8d) ∷ [])
    ++ at_driver (row.comes Uih 0 (row.msc_response 1 0x8d) ∷ [])

abbrev pub set_mode : List ℕ
set_mode = codes "AT+CMEE=1"

abbrev pub ask_mux : List ℕ
ask_mux = codes "AT+CMUX=0"

abbrev pub error_three : List ℕ
error_three = codes "+CME ERROR: 3"

-- the error mode is set, a line of the modem's own comes between, and an error has its number
abbrev pub two_commands : List EndAct
two_commands =
    opened
    ++ at_driver (takes 3 (Command one set_mode) ∷ row.sends Uih 1 (set_mode ++ row.cr) ∷ [])
    ++ at_modem (asks 1 set_mode ∷ offers 1 (framed (codes "OK")) ∷ sends Uih 1 (framed (codes "OK")) ∷ [])
    ++ at_modem
    (Did (Announce sim.one (codes "RING")) ∷ offers 1 (framed (codes "RING"))
    ∷ sends Uih 1 (framed (codes "RING")) ∷ [])
    ++ at_driver (row.comes Uih 1 (framed (codes "OK")) ∷ tells_done 3 (codes "OK" ∷ []) ∷ [])
    ++ at_driver (row.comes Uih 1 (framed (codes "RING")) ∷ Heard Ring 1 (codes "RING") ∷ [])
    ++ at_driver (takes 4 (Command one ask_mux) ∷ row.sends Uih 1 (ask_mux ++ row.cr) ∷ [])
    ++ at_modem (asks 1 ask_mux ∷ offers 1 (framed error_three) ∷ sends Uih 1 (framed error_three) ∷ [])
    ++ at_driver (row.comes Uih 1 (framed error_three) ∷ tells_done 4 (error_three ∷ []) ∷ [])

abbrev pub ringing : End
ringing = announcing 1 sim.one

-- `IsOneModem` holds of the right line
abbrev pub RightLine : Type 0
RightLine = IsOneModem (replaying 31) ringing (after [] two_commands)

-- the second command on 1 is answered with the number of its error
abbrev pub RightAnswer : Type 0
RightAnswer =
    IsAnswerAt ringing (heard (modem_past (after [] two_commands))) 1 1 ask_mux
    (answer_lines (error_three ∷ []))

-- ## What isn't right

-- it isn't answered as by a modem to which no mode was set, nor at the first place, nor on another connection
abbrev pub WrongAnswers : Type 0
WrongAnswers =
    (¬ IsAnswerAt ringing (heard (modem_past (after [] two_commands))) 1 1 ask_mux
    (answer_lines (codes "ERROR" ∷ [])))
    × (¬ IsAnswerAt ringing (heard (modem_past (after [] two_commands))) 1 0 ask_mux
    (answer_lines (error_three ∷ [])))
    × (¬ IsAnswerAt ringing (heard (modem_past (after [] two_commands))) 2 1 ask_mux
    (answer_lines (error_three ∷ [])))

-- a frame that comes before it was sent, and one that is passed over
abbrev pub came_early : List EndAct
came_early =
    at_driver
    (takes 1 (OpenChannel zero) ∷ row.sends Sabm 0 [] ∷ Given ∷ row.comes Ua 0 [] ∷ tells 1 Opened ∷ [])
    ++ at_modem (comes Sabm 0 [] ∷ sends Ua 0 [] ∷ gives ∷ [])

abbrev pub passed_over : List EndAct
passed_over =
    at_driver (takes 1 (OpenChannel zero) ∷ row.sends Sabm 0 [] ∷ Given ∷ [])
    ++ at_modem (comes Sabm 0 [] ∷ sends Ua 0 [] ∷ gives ∷ [])
    ++ at_driver
    (row.comes Ua 0 [] ∷ tells 1 Opened ∷ takes 2 (OpenChannel one) ∷ row.sends Sabm 1 [] ∷ Given ∷ [])
    ++ at_modem
    (comes Sabm 1 [] ∷ sends Ua 1 [] ∷ Wire (station.Sent (msc_frame Responder 1 ready)) ∷ gives ∷ gives
    ∷ [])
    ++ at_driver (row.comes Uih 0 (row.msc_command 1 0x8d) ∷ [])

abbrev pub WrongLines : Type 0
WrongLines = (¬ IsOneLine (after [] came_early)) × (¬ IsOneLine (after [] passed_over))
