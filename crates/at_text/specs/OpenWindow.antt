-- What contracts see of a window that is open, and which marks it fits.
use Rattle.std.specs.Prelude.{◌≡◌, ℕ, ◌&&◌, Bool, true, false, List, [], ◌∷◌, ◌++◌, Option, Some, None, option_map, if◌then◌else◌}
use Rattle.std.specs.Str.{bytes_eq}
use Rattle.at_text.specs.declared.answer.AnswerLine.{AnswerLine}
use Rattle.at_text.specs.declared.window.Seen.{Seen}
use Rattle.at_text.specs.declared.window.Seen.TheVariants.{Echo, Kept, Done, Other}
use Rattle.at_text.specs.Dialects.{Dialect, is_solicited}
use Rattle.at_text.specs.Windows.{Mark, Line, Window, answer_of, open_window, IsInTurn}
use Rattle.at_text.specs.Seeing.{answer_lines, is_fresh, by_kind, seen_after}

-- a command whose answer isn't whole: its text, the answer so far, and whether the next line that isn't
-- unsolicited may be the echo
pub record OpenWindow : Type 0 where
  pub command : List ℕ
  pub lines : List AnswerLine
  pub fresh : Bool

-- the window of a command, of whose answer no line has come yet
abbrev pub opened : List ℕ → OpenWindow
opened command = record { command = command; lines = []; fresh = true }

-- what is shown of a window that is open
abbrev pub shown : Dialect → Window → OpenWindow
shown dialect w = record { command = w.command; lines = answer_lines (answer_of dialect w); fresh = is_fresh dialect w }

-- these marks were placed since the window was made or its command dropped: each command where none was under
-- way, and the window shows what is open
pub record FitsMarks (dialect : Dialect) (window : Option OpenWindow) (past : List Mark) : Type 0 where
  pub in_turn : IsInTurn dialect past
  pub shows : window ≡ option_map (shown dialect) (open_window dialect past)

-- a line was seen: what it is after these marks, and that the window fits them and the line
pub record Sees (dialect : Dialect) (past : List Mark) (line : List ℕ) (seen : Seen) (window : Option OpenWindow) : Type 0 where
  pub said : seen ≡ seen_after dialect past line
  pub fits : FitsMarks dialect window (past ++ Line line ∷ [])

-- a line is the echo: the first that isn't unsolicited, and the command's text
abbrev pub is_echo : OpenWindow → List ℕ → Bool
is_echo o line = o.fresh && bytes_eq line o.command

-- the answer with one more line
abbrev pub with_line : OpenWindow → List ℕ → OpenWindow
with_line o line =
    record { command = o.command; lines = o.lines ++ record { text = line } ∷ []; fresh = false }

-- one step: what a line that isn't unsolicited is, by what the window shows
abbrev pub solicited_by : Dialect → Option OpenWindow → List ℕ → Seen
solicited_by dialect None line = Other
solicited_by dialect (Some o) line =
    if is_echo o line then Echo
    else if dialect.is_final line then Done (with_line o line).lines
    else Kept

-- one step: what any line is
abbrev pub seen_by : Dialect → Option OpenWindow → List ℕ → Seen
seen_by dialect window line = by_kind (dialect.kind_of line) (solicited_by dialect window line)

-- what a window shows after a line that isn't unsolicited
abbrev pub after_solicited : Dialect → Option OpenWindow → List ℕ → Option OpenWindow
after_solicited dialect None line = None
after_solicited dialect (Some o) line =
    if is_echo o line then Some (record o { fresh = false })
    else if dialect.is_final line then None
    else Some (with_line o line)

-- the window after a line
abbrev pub after_line : Dialect → Option OpenWindow → List ℕ → Option OpenWindow
after_line dialect window line = if is_solicited dialect line then after_solicited dialect window line else window
