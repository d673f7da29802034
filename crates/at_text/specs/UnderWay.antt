-- What contracts see of the answer of a command under way, whose text is kept elsewhere.
use Rattle.std.specs.Prelude.{◌≡◌, ℕ, ◌++◌, ◌∷◌, Bool, true, false, List, [], Option, Some, None, option_map}
use Rattle.at_text.specs.declared.answer.AnswerLine.{AnswerLine}
use Rattle.at_text.specs.Dialects.{Dialect}
use Rattle.at_text.specs.Windows.{Mark, Window, answer_of, open_window, IsInTurn}
use Rattle.at_text.specs.Seeing.{answer_lines, is_fresh}
use Rattle.at_text.specs.OpenWindow.{OpenWindow}

-- the answer so far of a command under way, and whether the next line that isn't unsolicited may be the echo
pub record UnderWay : Type 0 where
  pub lines : List AnswerLine
  pub fresh : Bool

-- what is shown of it, by whether a command is under way
abbrev pub under_way_if : Bool → UnderWay → Option UnderWay
under_way_if false u = None
under_way_if true u = Some u

-- of the answer no line has come yet
abbrev pub unanswered : UnderWay
unanswered = record { lines = []; fresh = true }

-- the answer with one more line
abbrev pub answered_on : UnderWay → List ℕ → UnderWay
answered_on u line = record { lines = u.lines ++ record { text = line } ∷ []; fresh = false }

-- the window of the command of this text
abbrev pub window_with : List ℕ → UnderWay → OpenWindow
window_with command u = record { command = command; lines = u.lines; fresh = u.fresh }

-- the window, if a command is under way, which has this text
abbrev pub window_of : List ℕ → Option UnderWay → Option OpenWindow
window_of command None = None
window_of command (Some u) = Some (window_with command u)

-- what is shown of a window that is open, but for the command's text
abbrev pub answer_shown : Dialect → Window → UnderWay
answer_shown dialect w = record { lines = answer_lines (answer_of dialect w); fresh = is_fresh dialect w }

-- these marks were placed since nothing was under way: each command where none was, and the answer is that of the
-- window that is open
pub record FitsUnderWay (dialect : Dialect) (under_way : Option UnderWay) (past : List Mark) : Type 0 where
  pub in_turn : IsInTurn dialect past
  pub shows : under_way ≡ option_map (answer_shown dialect) (open_window dialect past)
