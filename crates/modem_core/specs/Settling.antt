-- A frame is read in place. An answer that is whole by it stands in its window until the lane is settled.
use Rattle.std.specs.Prelude.{⊤, ◌≡◌, ℕ, ◌≤◌, true, List, ◌++◌, length, take, drop, is_some, Option, None, Some, if◌then◌else◌}
use Rattle.std.specs.List.{insert}
use Rattle.at_text.specs.declared.answer.AnswerLine.{AnswerLine}
use Rattle.at_text.specs.declared.under_way.Placed.{Placed}
use Rattle.at_text.specs.declared.under_way.Placed.TheVariants as is
use Rattle.at_text.specs.OpenWindow.{OpenWindow}
use Rattle.at_text.specs.InPlace.{lines_so_far, said_where, left_where}
use Rattle.modem_history.specs.Acts.{Act, Told}
use Rattle.modem_queues.specs.declared.asker.Asker.{Asker}
use Rattle.modem_core.specs.declared.settling.Answered.{Answered}
use Rattle.modem_core.specs.declared.settling.Whole.{Whole}
use Rattle.modem_core.specs.Lanes.{Lane}
use Rattle.modem_core.specs.Reports.{Read, ReadingView, ReportSays, done_by, said_as}

-- these acts are the first of those
abbrev pub StartsWith : (first all : List Act) → Type 0
StartsWith first all = take (length first) all ≡ first

-- ## While a frame is read

-- what is said: the lines that are heard, and behind so many of them the answer that is whole, which has these lines
abbrev pub said_acts : (owner : Option Asker) → List AnswerLine → (answer : Option ℕ) → (heard : List Act) → List Act
said_acts owner ls None heard = heard
said_acts owner ls (Some n) heard = take n heard ++ (done_by owner ls ++ drop n heard)

-- the window once an answer that is whole is taken out of it
abbrev pub settled_window : (answer : Option ℕ) → Option OpenWindow → Option OpenWindow
settled_window answer window = if is_some answer then None else window

-- what is read, once it is settled
abbrev pub settled : (owner : Option Asker) → (kept : List ℕ) → Option OpenWindow → (answer : Option ℕ) → (heard : List Act) → Read
settled owner kept window answer heard = record {
  kept = kept;
  window = settled_window answer window;
  acts = said_acts owner (lines_so_far window) answer heard;
}

-- the window is open, and so many lines are heard
pub record StandsBehind (n : ℕ) (window : Option OpenWindow) (heard : List Act) : Type 0 where
  pub opened : is_some window ≡ true
  pub within : n ≤ length heard

-- an answer that is whole stands in its window, and comes behind lines that are heard
abbrev pub Stands : (answer : Option ℕ) → Option OpenWindow → (heard : List Act) → Type 0
Stands None window heard = ⊤
Stands (Some n) window heard = StandsBehind n window heard

-- a line was placed in a window that has become this, where no answer was whole before
pub record SaysPlaced (r : ReadingView) (line : List ℕ) (placed : Placed) (window : Option OpenWindow)
    (old : List Act) (answer : Option ℕ) (new : List Act) : Type 0 where
  pub window_is : settled_window answer window ≡ left_where placed window
  pub says : ReportSays r (λ listens. said_as listens r.dlci r.owner line (said_where placed window)) old
      (said_acts r.owner (lines_so_far window) answer new)
  pub stands : (placed ≡ is.Whole → is_some window ≡ true) → Stands answer window new

-- ## Once it is read

-- the lane without a command whose answer is whole
abbrev pub settled_lane : (answer : Option ℕ) → Lane → Lane
settled_lane answer l = record l { under_way = if is_some answer then None else l.under_way }

-- the lines that are heard, with the answer that is whole at its place
abbrev pub with_whole : (owner : Option Asker) → Option Whole → (heard : List Act) → List Act
with_whole owner None heard = heard
with_whole owner (Some w) heard = said_acts owner w.lines (Some w.place) heard

-- the same, once it is told
abbrev pub with_told : Option Answered → (heard : List Act) → List Act
with_told None heard = heard
with_told (Some a) heard = insert heard a.place (Told a.outcome)
