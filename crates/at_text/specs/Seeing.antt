-- What a line is at its place (V.250, 5.2.3, 5.7.1; 27.007, 9).
use Rattle.std.specs.Prelude.{ℕ, ◌&&◌, Bool, true, false, List, [], ◌∷◌, ◌++◌, map, filter, Option, Some, None, if◌then◌else◌}
use Rattle.std.specs.Str.{bytes_eq}
use Rattle.at_text.specs.declared.answer.AnswerLine.{AnswerLine}
use Rattle.at_text.specs.declared.unsolicited.UrcKind.{UrcKind}
use Rattle.at_text.specs.declared.unsolicited.UrcKind.TheVariants.{Other as Uncalled}
use Rattle.at_text.specs.declared.window.Seen.{Seen}
use Rattle.at_text.specs.declared.window.Seen.TheVariants.{Echo, Kept, Done, Unsolicited, Other}
use Rattle.at_text.specs.Dialects.{Dialect, is_solicited}
use Rattle.at_text.specs.Windows.{Mark, Line, Begun, Window, answer_of, is_answered, more_of, open_window}

-- the lines as an answer has them
abbrev pub answer_lines : List (List ℕ) → List AnswerLine
answer_lines ls = map (λ l. record { text = l }) ls

-- there is no line
abbrev pub is_empty : List (List ℕ) → Bool
is_empty [] = true
is_empty (l ∷ ls) = false

-- no line but unsolicited ones has come in the window yet
abbrev pub is_fresh : Dialect → Window → Bool
is_fresh dialect w = is_empty (filter (is_solicited dialect) w.after)

-- what a line that isn't unsolicited is, in the window that is open
abbrev pub solicited_in : Dialect → Option Window → List ℕ → Seen
solicited_in dialect None line = Other
solicited_in dialect (Some w) line =
    if is_fresh dialect w && bytes_eq line w.command then Echo
    else if is_answered dialect (more_of w line) then Done (answer_lines (answer_of dialect (more_of w line)))
    else Kept

-- an unsolicited line is of its kind, wherever it stands
abbrev pub by_kind : Option UrcKind → Seen → Seen
by_kind None seen = seen
by_kind (Some kind) seen = Unsolicited kind

-- what a line is after some marks
abbrev pub seen_after : Dialect → List Mark → List ℕ → Seen
seen_after dialect past line = by_kind (dialect.kind_of line) (solicited_in dialect (open_window dialect past) line)

-- what each line of later marks is, after earlier ones
abbrev pub seen_from : Dialect → List Mark → List Mark → List Seen
seen_from dialect past [] = []
seen_from dialect past (Line l ∷ ms) = seen_after dialect past l ∷ seen_from dialect (past ++ Line l ∷ []) ms
seen_from dialect past (Begun c ∷ ms) = seen_from dialect (past ++ Begun c ∷ []) ms

-- what each line is at its place
abbrev pub seen_in : Dialect → List Mark → List Seen
seen_in dialect ms = seen_from dialect [] ms

-- the kind as which a line is announced
abbrev pub kind_of : Seen → Option UrcKind
kind_of (Unsolicited kind) = Some kind
kind_of Other = Some Uncalled
kind_of _ = None
