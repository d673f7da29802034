-- What is placed in a history is read off the acts at this end of the line and the commands that were
-- accepted.
use Rattle.std.specs.Prelude.{◌≡◌, ℕ, List, [], ◌∷◌, length, map, None}
use Rattle.std.specs.List.{concat, flat_map}
use Rattle.at_text.specs.Lines.{lines}
use Rattle.at_text.specs.Windows.{lines_of}
use Rattle.at_text.specs.Commands.{refusal_of}
use Rattle.modem_history.specs.Acts.{Act, wire}
use Rattle.modem_history.specs.Connections.{lines_got, lines_on, placed, all_placed, with_cr, wholly_sent}
use Rattle.modem_history.specs.Information.{accepted, all_accepted, line_of, lines_by_opening, information_out}
use Rattle.modem_history.specs.Placing.{marks, whole_after}
use Rattle.modem_history.specs.Calls.{Setting}
use Rattle.modem_history.specs.Wholes.{IsPrefixOf}
use Rattle.modem_history.specs.Hearing.{all_marks}

-- the commands that were accepted on d since it opened go out on it, and are placed there among its lines
unfoldable pub AreMarksPlaced : Setting → List Act → Type 0
AreMarksPlaced s past =
    (d : ℕ) → marks s.role d past ≡ placed s.role d (map line_of (accepted s.role d past)) (wire past)

-- in each opening of d the commands accepted in it go out on it, and are placed there among its lines
unfoldable pub AreAllMarksPlaced : Setting → List Act → Type 0
AreAllMarksPlaced s past =
    (d : ℕ) → all_marks s.role d past
    ≡ all_placed s.role d (lines_by_opening (all_accepted s.role d past)) (wire past)

-- the lines that are placed on d in all its openings are its lines among those of all connections
unfoldable pub HaveMarksAllLines : Setting → List Act → Type 0
HaveMarksAllLines s past =
    (d : ℕ) → flat_map lines_of (all_marks s.role d past) ≡ lines_on d (lines_got s.role (wire past))

-- each of the texts is a command line
abbrev pub AreCommandLines : List (List ℕ) → Type 0
AreCommandLines [] = Unit {0}
AreCommandLines (text ∷ texts) = (refusal_of text ≡ None) × AreCommandLines texts

-- of command lines that go out, the other end reads just those that are wholly sent, wherever they are cut
unfoldable pub AreReadAsSent : (commands : List (List ℕ)) → (out : List ℕ) → Type 0
AreReadAsSent commands out =
    AreCommandLines commands → IsPrefixOf out (concat (with_cr commands))
    → lines out ≡ wholly_sent (length out) commands

-- of the commands accepted on a connection, the other end reads just those that are wholly sent
unfoldable pub ReadsAccepted : Setting → List Act → Type 0
ReadsAccepted s past =
    (d : ℕ) → AreCommandLines (map line_of (accepted s.role d past))
    → lines (information_out s.role d past)
    ≡ map line_of (whole_after (length (information_out s.role d past)) (accepted s.role d past))
