-- Which lines answer which command, by their place alone (V.250, 5.2.3, 5.7.1).
use Rattle.at_text.specs.Dialects.{Dialect, is_solicited}
use Rattle.std.specs.Prelude.{◌≡◌, ℕ, Bool, List, [], ◌∷◌, ◌++◌, length, filter, map, Option, Some, None, if◌then◌else◌}
use Rattle.std.specs.List.{list_any, last_or}
use Rattle.std.specs.Str.{bytes_eq}

-- what is placed on a connection, in order: a line where its end stands, a command's text where the command
-- is wholly sent
pub data Mark : Type 0 where
  Line : (text : List ℕ) → Mark
  Begun : (command : List ℕ) → Mark

-- the lines among marks
abbrev pub lines_of : List Mark → List (List ℕ)
lines_of [] = []
lines_of (Line l ∷ ms) = l ∷ lines_of ms
lines_of (Begun c ∷ ms) = lines_of ms

-- without the first line, if it repeats the command: the echo
abbrev pub without_echo : List ℕ → List (List ℕ) → List (List ℕ)
without_echo command [] = []
without_echo command (l ∷ ls) = if bytes_eq l command then ls else l ∷ ls

-- up to and with the first final code
abbrev pub up_to_final : Dialect → List (List ℕ) → List (List ℕ)
up_to_final dialect [] = []
up_to_final dialect (l ∷ ls) = if dialect.is_final l then l ∷ [] else l ∷ up_to_final dialect ls

-- the answer of a command, of the lines placed after it
abbrev pub answer : Dialect → List ℕ → List (List ℕ) → List (List ℕ)
answer dialect command ls = up_to_final dialect (without_echo command (filter (is_solicited dialect) ls))

-- a final code is among lines
abbrev pub has_final : Dialect → List (List ℕ) → Bool
has_final dialect ls = list_any dialect.is_final ls

-- a command, and the lines placed after it
pub record Window : Type 0 where
  pub command : List ℕ
  pub after : List (List ℕ)

-- the answer, as far as it has come
abbrev pub answer_of : Dialect → Window → List (List ℕ)
answer_of dialect w = answer dialect w.command w.after

-- the window of each command, in order
abbrev pub windows : List Mark → List Window
windows [] = []
windows (Line l ∷ ms) = windows ms
windows (Begun c ∷ ms) = record { command = c; after = lines_of ms } ∷ windows ms

-- the window of the last command
abbrev pub last_window : List Mark → Option Window
last_window ms = last_or None (windows ms)

-- the answer of each command, in order, as far as it has come
abbrev pub answers : Dialect → List Mark → List (List (List ℕ))
answers dialect ms = map (answer_of dialect) (windows ms)

-- how many commands have their final code
abbrev pub answered : Dialect → List Mark → ℕ
answered dialect ms = length (filter (has_final dialect) (answers dialect ms))

-- the answer has its final code
abbrev pub is_answered : Dialect → Window → Bool
is_answered dialect w = has_final dialect (answer_of dialect w)

-- one more line is placed
abbrev pub more_of : Window → List ℕ → Window
more_of w line = record { command = w.command; after = w.after ++ line ∷ [] }

abbrev pub window_more : Option Window → List ℕ → Option Window
window_more None line = None
window_more (Some w) line = Some (more_of w line)

-- a window is open until its answer has its final code
abbrev pub open_of : Dialect → Option Window → Option Window
open_of dialect None = None
open_of dialect (Some w) = if is_answered dialect w then None else Some w

-- the window that is open after some marks
abbrev pub open_window : Dialect → List Mark → Option Window
open_window dialect ms = open_of dialect (last_window ms)

-- each command begins where no window is open
abbrev pub IsInTurn : Dialect → List Mark → Type 0
IsInTurn dialect ms =
    (before after : List Mark) (command : List ℕ) → ms ≡ before ++ Begun command ∷ after
    → open_window dialect before ≡ None
