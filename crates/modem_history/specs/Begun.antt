-- Commands that begin one after the other.
use Rattle.std.specs.Prelude.{◌≡◌, ℕ, ◌+◌, Bool, true, false, List, [], ◌∷◌}
use Rattle.at_text.specs.Dialects.{Dialect}
use Rattle.at_text.specs.Windows.{Mark, Line, Begun, lines_of, answer, has_final}

abbrev pub begun_count : List Mark → ℕ
begun_count [] = 0
begun_count (Line l ∷ ms) = begun_count ms
begun_count (Begun c ∷ ms) = begun_count ms + 1

abbrev pub has_begun : List Mark → Bool
has_begun [] = false
has_begun (Line l ∷ ms) = has_begun ms
has_begun (Begun c ∷ ms) = true

-- where a later command has begun, an earlier one has its final code
abbrev pub IsInOrder : Dialect → List Mark → Type 0
IsInOrder dialect [] = Unit {0}
IsInOrder dialect (Line l ∷ ms) = IsInOrder dialect ms
IsInOrder dialect (Begun c ∷ ms) = (has_begun ms ≡ true → has_final dialect (answer dialect c (lines_of ms)) ≡ true) × IsInOrder dialect ms
