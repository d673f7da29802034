-- What a reader of lines keeps and gives (V.250, 5.7).
use Rattle.std.specs.Prelude.{◌≡◌, ℕ, Bool, List, [], ◌∷◌, filter, map, Option, Some, None, if◌then◌else◌}
use Rattle.at_text.specs.declared.reader.Line.{Line}
use Rattle.at_text.specs.Lines.{cut, is_filled, kept_run}

-- the line that is lent, if one is
abbrev pub lines_in : Option Line → List (List ℕ)
lines_in None = []
lines_in (Some line) = line.text.now ∷ []

-- a run is a line once it ended, if it has octets
abbrev pub line_in : List ℕ → Bool → List (List ℕ)
line_in run has_ended = if has_ended then map cut (filter is_filled (run ∷ [])) else []

-- a reader has read these octets since it was made or reset
abbrev pub HasRead : List ℕ → List ℕ → Type 0
HasRead reader octets = reader ≡ kept_run octets
