-- What is counted of a connection.
use Rattle.std.specs.Prelude.{ℕ, ◌+◌, ◌==◌, ◌&&◌, Bool, min, max, List, [], ◌∷◌, ◌++◌, codes, None, Some, if◌then◌else◌}
use Rattle.std.specs.Fmt.{decimal}
use Rattle.at_text.specs.declared.window.Seen.{Seen}
use Rattle.at_text.specs.declared.window.Seen.TheVariants.{Echo, Kept, Done, Unsolicited, Other}
use Rattle.mux_capture.specs.declared.packet.Stamp.{Stamp}
use Rattle.modem_show.specs.declared.told.Told.{Told}
use Rattle.modem_show.specs.declared.told.Told.TheVariants.{Command, Text, Line}
use Rattle.show_texts.specs.declared.tally.Tally.{Tally}
use Rattle.show_texts.specs.Lines.{waited}
use Rattle.show_texts.specs.Words.{span_text}

-- of a connection of which nothing came
abbrev pub no_tally : Tally
no_tally = record { asked = None; commands = 0; answered = 0; longest = 0; reports = 0; octets = 0 }

-- a count goes up, and stays at the last number of 64 bits
abbrev pub counted : (before more : ℕ) → ℕ
counted before more = min (before + more) 18446744073709551615

-- with a line of the modem
abbrev pub with_seen : Stamp → Tally → Seen → Tally
with_seen s t Echo = t
with_seen s t Kept = t
with_seen s t (Done lines) =
    record t { answered = counted t.answered 1; longest = max t.longest (waited t.asked s) }
with_seen s t (Unsolicited kind) = record t { reports = counted t.reports 1 }
with_seen s t Other = record t { reports = counted t.reports 1 }

-- with a line of either end
abbrev pub with_told : Stamp → Tally → Told → Tally
with_told s t (Command line under_way) = record t { asked = Some s; commands = counted t.commands 1 }
with_told s t (Text line) = t
with_told s t (Line line seen) = with_seen s t seen

-- with each of these lines
abbrev pub with_all : Stamp → Tally → List Told → Tally
with_all s t [] = t
with_all s t (x ∷ told) = with_all s (with_told s t x) told

-- with a frame of so many octets of data, and the lines that end in it
abbrev pub with_frame : Stamp → Tally → (octets : ℕ) → List Told → Tally
with_frame s t octets told = with_all s (record t { octets = counted t.octets octets }) told

-- what is printed of it at the end, where there was anything
abbrev pub is_empty : Tally → Bool
is_empty t = (t.commands == 0) && ((t.answered == 0) && ((t.reports == 0) && (t.octets == 0)))

abbrev pub tally_text : (d : ℕ) → Tally → List ℕ
tally_text d t =
    codes "total " ++ decimal d ++ codes " commands " ++ decimal t.commands ++ codes " answered " ++ decimal t.answered
    ++ codes " longest " ++ span_text t.longest ++ codes " reports " ++ decimal t.reports ++ codes " data "
    ++ decimal t.octets ++ codes "\n"

abbrev pub total_text : (d : ℕ) → Tally → List ℕ
total_text d t = if is_empty t then [] else tally_text d t
