-- Worked lines, N1 31.
use Rattle.std.specs.Prelude.{◌≡◌, ℕ, List, [], ◌∷◌, ◌++◌, codes, map, reverse}
use Rattle.mux_frame.specs.declared.frame.Kind.{Kind}
use Rattle.mux_frame.specs.declared.frame.Kind.TheVariants.{Sabm, Ua, Dm, Uih}
use Rattle.mux_capture.specs.Passing.{Caught}
use Rattle.mux_capture.specs.declared.packet.Stamp.{Stamp}
use Rattle.mux_station.specs.declared.role.Role.TheVariants.{Initiator, Responder}
use Rattle.mux_station.specs.Acts as station
use Rattle.mux_station.specs.Written.{written}
use Rattle.modem_desk.specs.declared.request.Ask.TheVariants.{OpenChannel, Command, Stop}
use Rattle.modem_desk.specs.declared.request.Answer.TheVariants.{Opened, Refused, Closed, Stopped}
use Rattle.modem_history.specs.Acts as driver
use Rattle.modem_history.specs.Acts.{Given}
use Rattle.modem_history.specs.Calls.{replaying}
use Rattle.modem_history.specs.Rows as row
use Rattle.modem_history.specs.Rows.{takes, tells, tells_done, zero, one}
use Rattle.modem_show.specs.Judging.{faults_from, unanswered}
use Rattle.modem_show.specs.Rows.{never_answered, sound}
use Rattle.show_laws.specs.InTime.{CommandsInTime, IsCalmLine}
use Rattle.show_laws.specs.Laws.{IsPlainLine}
use Rattle.show_laws.specs.Lines.{AtDriver, AtModem, IsDone, IsLawfulLine, LineAct, captured}

-- the line after these acts, of which the first comes first
abbrev pub after : List LineAct → List LineAct → List LineAct
after line [] = line
after line (a ∷ acts) = after (a ∷ line) acts

abbrev pub at_driver : List driver.Act → List LineAct
at_driver acts = map AtDriver acts

abbrev pub at_modem : List station.Act → List LineAct
at_modem acts = map AtModem acts

-- it comes from the initiator; the modem sends it
abbrev pub comes : Kind → ℕ → List ℕ → station.Act
comes k d info = station.Got (written Initiator k d info)

abbrev pub sends : Kind → ℕ → List ℕ → station.Act
sends k d info = station.Sent (written Responder k d info)

-- 0 is opened
abbrev pub opened_zero : List LineAct
opened_zero =
    at_driver (takes 1 (OpenChannel zero) ∷ row.sends Sabm 0 [] ∷ Given ∷ [])
    ++ at_modem (comes Sabm 0 [] ∷ sends Ua 0 [] ∷ station.Given ∷ [])
    ++ at_driver (row.comes Ua 0 [] ∷ tells 1 Opened ∷ [])

-- 1 is opened, a command is answered, and 0 is closed down
abbrev pub one_command : List LineAct
one_command =
    opened_zero
    ++ at_driver (takes 2 (OpenChannel one) ∷ row.sends Sabm 1 [] ∷ Given ∷ [])
    ++ at_modem
    (comes Sabm 1 [] ∷ sends Ua 1 [] ∷ sends Uih 0 (row.msc_command 1 0x8d) ∷ station.Given ∷ station.Given ∷ [])
    ++ at_driver
    (row.comes Ua 1 [] ∷ row.sends Uih 0 (row.msc_command 1 0x8d) ∷ tells 2 Opened ∷ Given
    ∷ row.comes Uih 0 (row.msc_command 1 0x8d) ∷ row.sends Uih 0 (row.msc_response 1 0x8d) ∷ Given
    ∷ takes 3 (Command one (codes "AT")) ∷ row.sends Uih 1 (codes "AT" ++ row.cr) ∷ [])
    ++ at_modem
    (comes Uih 0 (row.msc_command 1 0x8d) ∷ sends Uih 0 (row.msc_response 1 0x8d) ∷ station.Given
    ∷ comes Uih 0 (row.msc_response 1 0x8d) ∷ comes Uih 1 (codes "AT" ++ row.cr)
    ∷ station.Called (station.Offer 1 (row.framed (codes "OK"))) ∷ sends Uih 1 (row.framed (codes "OK")) ∷ [])
    ++ at_driver
    (row.comes Uih 0 (row.msc_response 1 0x8d) ∷ row.comes Uih 1 (row.framed (codes "OK"))
    ∷ tells_done 3 (codes "OK" ∷ []) ∷ takes 4 Stop ∷ row.sends Uih 0 row.cld_command ∷ Given ∷ [])
    ++ at_modem (comes Uih 0 row.cld_command ∷ sends Uih 0 row.cld_response ∷ station.Given ∷ [])
    ++ at_driver (row.comes Uih 0 row.cld_response ∷ tells 4 Stopped ∷ [])

-- the driver closes 0 down while it opens 1: the modem's MSC for 1 comes to a driver that answers none any more
abbrev pub stopped_early : List LineAct
stopped_early =
    opened_zero
    ++ at_driver
    (takes 2 (OpenChannel one) ∷ row.sends Sabm 1 [] ∷ Given ∷ takes 3 Stop ∷ row.sends Uih 0 row.cld_command ∷ tells 2 Closed
    ∷ Given ∷ [])
    ++ at_modem
    (comes Sabm 1 [] ∷ sends Ua 1 [] ∷ sends Uih 0 (row.msc_command 1 0x8d) ∷ station.Given ∷ station.Given
    ∷ comes Uih 0 row.cld_command ∷ sends Uih 0 row.cld_response ∷ station.Given ∷ [])
    ++ at_driver
    (row.comes Ua 1 [] ∷ row.comes Uih 0 (row.msc_command 1 0x8d) ∷ row.comes Uih 0 row.cld_response ∷ tells 3 Stopped ∷ [])

-- both ends ask for 1: the driver answers DM, and gives its own opening up; the modem answers UA, and sends before the DM comes to it
abbrev pub both_open : List LineAct
both_open =
    opened_zero
    ++ at_driver (takes 2 (OpenChannel one) ∷ row.sends Sabm 1 [] ∷ Given ∷ [])
    ++ at_modem (station.Called (station.Open 1) ∷ sends Sabm 1 [] ∷ station.Given ∷ [])
    ++ at_driver (row.comes Sabm 1 [] ∷ row.sends Dm 1 [] ∷ tells 2 Refused ∷ Given ∷ [])
    ++ at_modem
    (comes Sabm 1 [] ∷ sends Ua 1 [] ∷ sends Uih 0 (row.msc_command 1 0x8d) ∷ station.Given ∷ station.Given
    ∷ station.Called (station.Offer 1 (row.framed (codes "RING"))) ∷ sends Uih 1 (row.framed (codes "RING"))
    ∷ comes Dm 1 [] ∷ [])
    ++ at_driver
    (row.comes Ua 1 [] ∷ row.comes Uih 0 (row.msc_command 1 0x8d) ∷ row.sends Uih 0 (row.msc_response 1 0x8d) ∷ Given
    ∷ row.comes Uih 1 (row.framed (codes "RING")) ∷ [])
    ++ at_modem (comes Uih 0 (row.msc_response 1 0x8d) ∷ [])

abbrev pub no_time : ℕ → Stamp
no_time n = record { seconds = 0; micros = 0 }

abbrev pub frames_of : List LineAct → List Caught
frames_of acts = captured no_time (after [] acts)

-- the line is lawful, no frame of it is judged wrong, and every ask was answered or needn't be
pub record IsRight (acts : List LineAct) : Type 0 where
  pub lawful : IsLawfulLine (replaying 31) 31 (after [] acts)
  pub frames : faults_from 31 [] (reverse (frames_of acts)) ≡ map (λ c. sound) (frames_of acts)
  pub of_driver : never_answered (unanswered Initiator (frames_of acts)) ≡ []
  pub of_modem : never_answered (unanswered Responder (frames_of acts)) ≡ []

-- all that the laws ask of a line
pub record MeetsAll (acts : List LineAct) : Type 0 where
  pub plain : IsPlainLine (replaying 31) 31 (after [] acts)
  pub done : IsDone (replaying 31) 31 (after [] acts)
  pub calm : IsCalmLine (replaying 31) 31 (after [] acts)
  pub in_time : CommandsInTime (after [] acts)

pub record AreRight : Type 0 where
  pub talks : IsRight one_command
  pub talks_by_all : MeetsAll one_command
  pub stops : IsRight stopped_early
  pub stops_by_all : MeetsAll stopped_early
  pub opens : IsRight both_open
  pub opens_plainly : IsPlainLine (replaying 31) 31 (after [] both_open)
