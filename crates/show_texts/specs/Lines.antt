-- What is printed of a line of a connection: a command, a line of its answer, or one that no command asked for.
use Rattle.std.specs.Prelude.{ℕ, ◌+◌, ◌-◌, ◌*◌, ◌||◌, Bool, List, ◌++◌, codes, Option, None, Some}
use Rattle.std.specs.Fmt.{decimal}
use Rattle.std.specs.List.{list_any}
use Rattle.at_text.specs.Rules.{Rules, dialect_of, name_of}
use Rattle.at_text.specs.declared.unsolicited.UrcKind.{UrcKind}
use Rattle.at_text.specs.declared.window.Seen.{Seen}
use Rattle.at_text.specs.declared.window.Seen.TheVariants.{Echo, Kept, Done, Unsolicited, Other}
use Rattle.mux_frame.specs.Frames.{Frame}
use Rattle.mux_capture.specs.declared.packet.Direction.{Direction}
use Rattle.mux_capture.specs.declared.packet.Stamp.{Stamp}
use Rattle.modem_show.specs.Talking.{is_unprompted, overlaps}
use Rattle.modem_show.specs.declared.rule.Rule.TheVariants.{Overlapping, Unprompted}
use Rattle.modem_show.specs.declared.told.Told.{Told}
use Rattle.modem_show.specs.declared.told.Told.TheVariants.{Command, Text, Line}
use Rattle.ctl_text.specs.Texts.{line_text, named_text}
use Rattle.show_texts.specs.Complaints.{complaint_if}
use Rattle.show_texts.specs.Words.{head_text, span_text}

-- a stamp in microseconds
abbrev pub micros_of : Stamp → ℕ
micros_of s = s.seconds * 1000000 + s.micros

-- how long it is since then, in microseconds
abbrev pub waited : Option Stamp → Stamp → ℕ
waited None now = 0
waited (Some then) now = micros_of now - micros_of then

-- a word, the connection, and the line
abbrev pub said_text : List ℕ → ℕ → List ℕ → List ℕ
said_text word d line = word ++ codes " " ++ decimal d ++ codes " " ++ line_text line ++ codes "\n"

-- a line that no command asked for, under its kind
abbrev pub heard_line : Rules → UrcKind → ℕ → List ℕ → List ℕ
heard_line rules kind d line =
    codes "heard " ++ named_text (name_of rules kind) kind ++ codes " " ++ decimal d ++ codes " " ++ line_text line
    ++ codes "\n"

-- a line of the modem; the last one of an answer has before it how long the answer took
abbrev pub seen_text : Rules → (wait d : ℕ) → List ℕ → Seen → List ℕ
seen_text rules wait d line Echo = said_text (codes "echo") d line
seen_text rules wait d line Kept = said_text (codes "line") d line
seen_text rules wait d line (Done lines) =
    codes "answered " ++ decimal d ++ codes " " ++ span_text wait ++ codes " " ++ line_text line ++ codes "\n"
seen_text rules wait d line (Unsolicited kind) = heard_line rules kind d line
seen_text rules wait d line Other = heard_line rules UrcKind.Other d line

abbrev pub told_text : Rules → (wait d : ℕ) → Told → List ℕ
told_text rules wait d (Command line under_way) = said_text (codes "command") d line
told_text rules wait d (Text line) = said_text (codes "text") d line
told_text rules wait d (Line line seen) = seen_text rules wait d line seen

-- what is told of a line that ends in this frame, and what is wrong with it; asked says when the last command passed
abbrev pub told_line : Rules → Stamp → Direction → (asked : Option Stamp) → Frame → Told → List ℕ
told_line rules s d asked f t =
    head_text s d ++ told_text rules (waited asked s) f.dlci t ++ complaint_if (overlaps t) s d Overlapping f
    ++ complaint_if (is_unprompted (dialect_of rules) t) s d Unprompted f

-- one of these lines is wrong
abbrev pub are_wrong : Rules → List Told → Bool
are_wrong rules told = list_any (λ t. overlaps t || is_unprompted (dialect_of rules) t) told
