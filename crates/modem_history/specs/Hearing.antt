-- Which lines are heard: each line of a connection, over all its openings in turn, that no answer holds and that is no
-- echo, if its kind is listened to (V.250, 5.7.1; 27.007, 9).
use Rattle.std.specs.Prelude.{◌≡◌, ℕ, ◌==◌, List, [], ◌∷◌, ◌++◌, filter, if◌then◌else◌}
use Rattle.std.specs.List.{flat_map}
use Rattle.mux_station.specs.declared.role.Role.{Role}
use Rattle.at_text.specs.declared.unsolicited.UrcKind.{UrcKind}
use Rattle.at_text.specs.Dialects.{Dialect}
use Rattle.at_text.specs.Windows.{Mark, lines_of}
use Rattle.at_text.specs.Seeing.{seen_in}
use Rattle.at_text.specs.Whole.{announced, NoneLost}
use Rattle.modem_history.specs.Acts.{Act, Got, Heard}
use Rattle.modem_history.specs.Information.{opens_here}
use Rattle.modem_history.specs.Placing.{marks}
use Rattle.modem_history.specs.Calls.{Setting}
use Rattle.modem_history.specs.Lawful.{Complete, owed}

-- the lines that were heard on d, in order, each with its kind
abbrev pub was_heard : ℕ → List Act → List (UrcKind × List ℕ)
was_heard d [] = []
was_heard d (Heard kind e line ∷ past) = was_heard d past ++ (if e == d then (kind, line) ∷ [] else [])
was_heard d (_ ∷ past) = was_heard d past

-- the lines that are to be heard on d, of what is owed (the next one first)
abbrev pub to_be_heard : ℕ → List Act → List (UrcKind × List ℕ)
to_be_heard d [] = []
to_be_heard d (Heard kind e line ∷ owing) = (if e == d then (kind, line) ∷ [] else []) ++ to_be_heard d owing
to_be_heard d (_ ∷ owing) = to_be_heard d owing

-- what is placed on d before it last opened, each opening by itself, in turn; before the first there is
-- nothing
abbrev pub earlier_marks : Role → ℕ → List Act → List (List Mark)
earlier_marks r d [] = []
earlier_marks r d (Got f ∷ past) =
    earlier_marks r d past ++ (if opens_here r d past (Got f) then marks r d past ∷ [] else [])
earlier_marks r d (_ ∷ past) = earlier_marks r d past

-- what is placed on d in each of its openings, in turn
abbrev pub all_marks : Role → ℕ → List Act → List (List Mark)
all_marks r d past = earlier_marks r d past ++ marks r d past ∷ []

-- the lines of some marks that no answer holds and that are no echo, each with its kind, Other among them
abbrev pub announced_in : Dialect → List Mark → List (UrcKind × List ℕ)
announced_in dialect ms = announced (lines_of ms) (seen_in dialect ms)

-- the lines of a listened kind
abbrev pub listened : Setting → List (UrcKind × List ℕ) → List (UrcKind × List ℕ)
listened s lines = filter (λ (p : UrcKind × List ℕ). s.listens p.0) lines

-- all that is announced on d to a listener, over all its openings in turn
abbrev pub listened_on : Setting → ℕ → List Act → List (UrcKind × List ℕ)
listened_on s d past = listened s (flat_map (announced_in s.dialect) (all_marks s.role d past))

-- no line is lost or counted twice in any opening
abbrev pub AreNoneLost : Dialect → List (List Mark) → Type 0
AreNoneLost dialect [] = Unit {0}
AreNoneLost dialect (ms ∷ rest) = NoneLost dialect ms × AreNoneLost dialect rest

-- What was heard on d is the beginning of all that is announced there, and the rest is owed. What is announced are just
-- the lines that are part of no answer and no echo, each once.
pub record Hears (s : Setting) (d : ℕ) (past : List Act) : Type 0 where
  pub in_order : was_heard d past ++ to_be_heard d (owed s past) ≡ listened_on s d past
  pub each_once : AreNoneLost s.dialect (all_marks s.role d past)

-- the law of `Hears`, of every connection
unfoldable pub HearsInOrder : Setting → List Act → Type 0
HearsInOrder s past = (d : ℕ) → Hears s d past

-- where nothing is owed, every line that was to be heard was heard
unfoldable pub HearsAll : Setting → List Act → Type 0
HearsAll s past = Complete s past → (d : ℕ) → was_heard d past ≡ listened_on s d past
