-- A line with an initiator at one end and a responder at the other: what the responder reads of what the
-- initiator sent (27.010, 5.4; V.250, 5.2.1).
use Rattle.std.specs.Prelude.{◌≡◌, ℕ, ◌≤◌, ◌&&◌, true, List, [], ◌∷◌, ◌++◌, length, map, filter, None, if◌then◌else◌}
use Rattle.mux_frame.specs.Frames.{Frame}
use Rattle.mux_frame.specs.declared.frame.Kind.TheVariants.{Sabm}
use Rattle.mux_station.specs.declared.role.Role.TheVariants.{Initiator, Responder}
use Rattle.mux_station.specs.Written.{is_on}
use Rattle.mux_station.specs.Acts as station
use Rattle.mux_station.specs.Opening.{is_open}
use Rattle.at_text.specs.Commands.{refusal_of}
use Rattle.modem_history.specs.Acts.{Act, Took, Sent, wire}
use Rattle.modem_history.specs.Connections.{carries, commands_ended, lines_got}
use Rattle.modem_history.specs.Information.{accepted, command_on, line_of}
use Rattle.modem_history.specs.Calls.{Setting}
use Rattle.modem_history.specs.Lawful.{Lawful}

-- the elements of the one list stand in the other, in the same order
pub data IsAmong {A : Type 0} : List A → List A → Type 0 where
  none : IsAmong [] []
  takes : (x : A) (xs ys : List A) → IsAmong xs ys → IsAmong (x ∷ xs) (x ∷ ys)
  leaves : (y : A) (xs ys : List A) → IsAmong xs ys → IsAmong xs (y ∷ ys)

-- ## Frames on the line

-- the frames that came at an end, and those that it sent, newest first
abbrev pub frames_got : List station.Act → List Frame
frames_got [] = []
frames_got (station.Got f ∷ past) = f ∷ frames_got past
frames_got (_ ∷ past) = frames_got past

abbrev pub frames_sent : List station.Act → List Frame
frames_sent [] = []
frames_sent (station.Sent f ∷ past) = f ∷ frames_sent past
frames_sent (_ ∷ past) = frames_sent past

-- the frames that came at one end are the first that the other sent; the later ones are under way
pub record ComesInOrder (sender receiver : List station.Act) : Type 0 where
  pub later : List Frame
  pub sent_are : frames_sent sender ≡ later ++ frames_got receiver

-- each connection is asked for once at most
abbrev pub AsksOnce : List station.Act → Type 0
AsksOnce past = (d : ℕ) → length (filter (is_on Sabm d) (frames_sent past)) ≤ 1

-- ## Commands

-- each command that was taken is a command line
abbrev pub TakesCommandLines : List Act → Type 0
TakesCommandLines [] = Unit {0}
TakesCommandLines (Took q ∷ past) =
    ((d : ℕ) → command_on d q.ask ≡ true → refusal_of (line_of q) ≡ None) × TakesCommandLines past
TakesCommandLines (_ ∷ past) = TakesCommandLines past

-- the commands that a frame makes whole, each with its connection
abbrev pub commands_with : List Act → Frame → List (ℕ × List ℕ)
commands_with past f =
    if carries f.dlci f && is_open Initiator f.dlci (wire past)
    then map (λ c. (f.dlci, c)) (commands_ended Initiator f.dlci
    (map line_of (accepted Initiator f.dlci past)) (wire past) f)
    else []

-- the commands of all connections that are wholly sent, each with its connection: in the order of the frames
-- that complete them
abbrev pub commands_sent : List Act → List (ℕ × List ℕ)
commands_sent [] = []
commands_sent (Sent f ∷ past) = commands_sent past ++ commands_with past f
commands_sent (_ ∷ past) = commands_sent past

-- ## The law

-- what the responder reads, over all connections, are commands that the initiator was given, each on its
-- connection, in the order in which they were wholly sent
unfoldable pub ReadsInOrder : Setting → List Act → List station.Act → Type 0
ReadsInOrder s past responder =
    s.role ≡ Initiator → Lawful s past → TakesCommandLines past → AsksOnce (wire past)
    → ComesInOrder (wire past) responder
    → IsAmong (lines_got Responder responder) (commands_sent past)
