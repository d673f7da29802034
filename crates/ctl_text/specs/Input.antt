-- The lines of an input.
use Rattle.std.specs.Prelude.{ℕ, ◌==◌, ◌&&◌, Bool, false, List, [], ◌∷◌, if◌then◌else◌}
use Rattle.std.specs.List.{onto_first}

-- LF stands next
abbrev pub is_at_end : List ℕ → Bool
is_at_end [] = false
is_at_end (c ∷ text) = c == 10

-- a line ends at LF, or at the end of input; a CR just before the LF isn't part of it
abbrev pub input_lines : List ℕ → List (List ℕ)
input_lines [] = []
input_lines (c ∷ text) =
    if c == 10 then [] ∷ input_lines text
    else if c == 13 && is_at_end text then input_lines text
    else onto_first c (input_lines text)
