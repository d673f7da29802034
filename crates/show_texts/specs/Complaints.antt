-- Complaints: what was wrong, when, and with which frame.
use Rattle.std.specs.Prelude.{ℕ, Bool, ◌||◌, List, [], ◌++◌, codes, if◌then◌else◌}
use Rattle.std.specs.Fmt.{decimal}
use Rattle.hex.specs.Hex.{encode_lower}
use Rattle.mux_frame.specs.Frames.{Frame}
use Rattle.mux_frame.specs.Spelling.{spelled}
use Rattle.mux_capture.specs.declared.packet.Direction.{Direction}
use Rattle.mux_capture.specs.declared.packet.Stamp.{Stamp}
use Rattle.modem_show.specs.declared.faults.Faults.{Faults}
use Rattle.modem_show.specs.declared.rule.Rule.{Rule}
use Rattle.modem_show.specs.declared.rule.Rule.TheVariants.{Unasked, Unopened, Unstopped, TooLong, Astray}
use Rattle.modem_show.specs.Rules.{rule_words}
use Rattle.show_texts.specs.Words.{head_text}

-- the connection, the rule, and the frame from flag to flag in hexadecimal
abbrev pub complaint_text : Stamp → Direction → Rule → Frame → List ℕ
complaint_text s d rule f =
    head_text s d ++ codes "! " ++ decimal f.dlci ++ codes " " ++ rule_words rule ++ codes ": "
    ++ encode_lower (spelled f) ++ codes "\n"

unfoldable pub complaint_if : Bool → Stamp → Direction → Rule → Frame → List ℕ
complaint_if b s d rule f = if b then complaint_text s d rule f else []

-- a line for each rule that the frame breaks
abbrev pub faults_text : Stamp → Direction → Faults → Frame → List ℕ
faults_text s d faults f =
    complaint_if faults.unasked s d Unasked f ++ complaint_if faults.unopened s d Unopened f
    ++ complaint_if faults.unstopped s d Unstopped f ++ complaint_if faults.too_long s d TooLong f
    ++ complaint_if faults.astray s d Astray f

-- the frame breaks a rule
abbrev pub has_fault : Faults → Bool
has_fault faults = faults.unasked || (faults.unopened || (faults.unstopped || (faults.too_long || faults.astray)))
