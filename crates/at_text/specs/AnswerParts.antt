-- Lines as one text, and where each of them ends in it.
use Rattle.std.specs.Prelude.{◌≡◌, ℕ, ◌≤◌, List, [], ◌∷◌, slice_range}
use Rattle.at_text.specs.declared.answer.AnswerLine.{AnswerLine}

-- a line of these octets
abbrev pub line_of : List ℕ → AnswerLine
line_of octets = record { text = octets }

-- the lines of a text from a place on, by where each ends
abbrev pub lines_ended : ℕ → List ℕ → List ℕ → List AnswerLine
lines_ended start [] text = []
lines_ended start (end ∷ ends) text = line_of (slice_range text start end) ∷ lines_ended end ends text

-- lines that end there fill a text of this length from a place on: each begins where the one before it ends
abbrev pub Fill : ℕ → List ℕ → ℕ → Type 0
Fill start [] len = start ≡ len
Fill start (end ∷ ends) len = (start ≤ end) × Fill end ends len
