-- Where lines are placed among commands, however their octets come (V.250, 5.7).
use Rattle.std.specs.Prelude.{◌≡◌, ℕ, List, [], ◌∷◌, ◌++◌, map}
use Rattle.at_text.specs.Lines.{lines, kept_run}
use Rattle.at_text.specs.Windows.{Mark, Line, Begun, lines_of}

-- what comes on a connection: some octets at once, a command's text where the command is wholly sent
pub data Part : Type 0 where
  Octets : (text : List ℕ) → Part
  Command : (text : List ℕ) → Part

-- all octets that come
abbrev pub octets_of : List Part → List ℕ
octets_of [] = []
octets_of (Octets text ∷ parts) = text ++ octets_of parts
octets_of (Command text ∷ parts) = octets_of parts

-- the marks of what comes after an unfinished run: each line where its end comes
abbrev pub marks_from : List ℕ → List Part → List Mark
marks_from run [] = []
marks_from run (Octets text ∷ parts) =
    map Line (lines (run ++ text)) ++ marks_from (kept_run (run ++ text)) parts
marks_from run (Command text ∷ parts) = Begun text ∷ marks_from run parts

abbrev pub marks_of : List Part → List Mark
marks_of parts = marks_from [] parts

-- the lines that are placed are the lines of all octets, whatever commands come between, and the marks are the same
-- wherever octets are cut
pub record PlacesLines (parts : List Part) : Type 0 where
  pub all : lines_of (marks_of parts) ≡ lines (octets_of parts)
  pub cut :
      (before : List Part) (x y : List ℕ)
      → marks_of (before ++ Octets (x ++ y) ∷ parts) ≡ marks_of (before ++ Octets x ∷ Octets y ∷ parts)
