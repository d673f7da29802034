-- Lines placed in a window where an answer that is whole stays, and the way back.
use Rattle.std.specs.Prelude.{◌≡◌, ℕ, Bool, false, List, [], ◌++◌, length, take, Option, Some, None, if◌then◌else◌}
use Rattle.at_text.specs.declared.answer.AnswerLine.{AnswerLine}
use Rattle.at_text.specs.declared.under_way.Placed.{Placed}
use Rattle.at_text.specs.declared.under_way.Placed.TheVariants as is
use Rattle.at_text.specs.declared.window.Seen.{Seen}
use Rattle.at_text.specs.declared.window.Seen.TheVariants as seen
use Rattle.at_text.specs.declared.under_way.WindowMark.{WindowMark}
use Rattle.at_text.specs.Dialects.{Dialect, is_solicited}
use Rattle.at_text.specs.OpenWindow.{OpenWindow, is_echo, with_line, seen_by}

-- the lines that the answer has so far
abbrev pub lines_so_far : Option OpenWindow → List AnswerLine
lines_so_far None = []
lines_so_far (Some o) = o.lines

-- what a line is, while an answer stays in its window
abbrev pub placed_as : Seen → Placed
placed_as seen.Echo = is.Echo
placed_as seen.Kept = is.Kept
placed_as (seen.Done lines) = is.Whole
placed_as (seen.Unsolicited kind) = is.Unsolicited kind
placed_as seen.Other = is.Other

-- what any line is there
abbrev pub placed_by : Dialect → Option OpenWindow → List ℕ → Placed
placed_by dialect window line = placed_as (seen_by dialect window line)

-- the window with a line that isn't unsolicited, a final code too
abbrev pub solicited_placed : Option OpenWindow → List ℕ → Option OpenWindow
solicited_placed None line = None
solicited_placed (Some o) line = if is_echo o line then Some (record o { fresh = false }) else Some (with_line o line)

-- the window with any line
abbrev pub after_placed : Dialect → Option OpenWindow → List ℕ → Option OpenWindow
after_placed dialect window line = if is_solicited dialect line then solicited_placed window line else window

-- what the line is that was placed, by the window with it
abbrev pub said_where : Placed → Option OpenWindow → Seen
said_where is.Echo window = seen.Echo
said_where is.Kept window = seen.Kept
said_where is.Whole window = seen.Done (lines_so_far window)
said_where (is.Unsolicited kind) window = seen.Unsolicited kind
said_where is.Other window = seen.Other

-- the window without an answer that is whole
abbrev pub left_where : Placed → Option OpenWindow → Option OpenWindow
left_where is.Whole window = None
left_where _ window = window

-- the same command is under way, and its answer has these lines more
pub record GrowsOn (old : OpenWindow) (window : Option OpenWindow) : Type 0 where
  pub more : List AnswerLine
  pub fresh : Bool
  pub window_is : window ≡ Some (record { command = old.command; lines = old.lines ++ more; fresh = fresh })

-- what is under way stays so, and only lines are added
unfoldable pub Grows : (old new : Option OpenWindow) → Type 0
Grows None new = new ≡ None
Grows (Some o) new = GrowsOn o new

-- how far the answer has come
abbrev pub mark_of : Option OpenWindow → WindowMark
mark_of None = record { lines = 0; fresh = false }
mark_of (Some o) = record { lines = length o.lines; fresh = o.fresh }

-- the window with the lines of a mark alone
abbrev pub back_at : WindowMark → Option OpenWindow → Option OpenWindow
back_at mark None = None
back_at mark (Some o) = Some (record o { lines = take mark.lines o.lines; fresh = mark.fresh })
