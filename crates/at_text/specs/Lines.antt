-- Lines of a text (V.250, 5.7; its S3 and S4 are CR and LF).
use Rattle.std.specs.Prelude.{◌≡◌, ℕ, ◌==◌, ◌||◌, Bool, true, false, List, [], ◌∷◌, ◌++◌, take, map, filter, if◌then◌else◌}
use Rattle.std.specs.List.{list_any}

-- an octet ends a line: CR (6.2.1) or LF (6.2.2)
abbrev pub is_line_end : ℕ → Bool
is_line_end c = c == 13 || c == 10

-- some runs, with this octet at the front of the first; where there are none, the octet is in no run that ended
abbrev pub onto_first : ℕ → List (List ℕ) → List (List ℕ)
onto_first c [] = []
onto_first c (run ∷ runs) = (c ∷ run) ∷ runs

-- what stands before each line end, from the line end before it on
abbrev pub ended_runs : List ℕ → List (List ℕ)
ended_runs [] = []
ended_runs (c ∷ text) = if is_line_end c then [] ∷ ended_runs text else onto_first c (ended_runs text)

-- what stands behind the last line end
abbrev pub unfinished : List ℕ → List ℕ
unfinished [] = []
unfinished (c ∷ text) = if list_any is_line_end (c ∷ text) then unfinished text else c ∷ text

-- a run has octets
abbrev pub is_filled : List ℕ → Bool
is_filled [] = false
is_filled (c ∷ run) = true

-- a run without what is too long (own: 512 octets are kept)
abbrev pub cut : List ℕ → List ℕ
cut run = take 512 run

-- the lines of a text: its runs that ended, those with octets, each cut
abbrev pub lines : List ℕ → List (List ℕ)
lines text = map cut (filter is_filled (ended_runs text))

-- what is kept of the run that is unfinished at the end of a text
abbrev pub kept_run : List ℕ → List ℕ
kept_run text = cut (unfinished text)

-- the lines of a text that goes on from an unfinished run, and the run that is unfinished at its end
abbrev pub lines_from : List ℕ → List ℕ → List (List ℕ)
lines_from run text = lines (run ++ text)

abbrev pub run_from : List ℕ → List ℕ → List ℕ
run_from run text = unfinished (run ++ text)

-- lines can be read on from the unfinished run alone, and from what is kept of it
pub record ReadsOn (x y : List ℕ) : Type 0 where
  pub reads : lines (x ++ y) ≡ lines x ++ lines_from (run_from [] x) y
  pub runs_on : run_from [] (x ++ y) ≡ run_from (run_from [] x) y
  pub reads_kept : lines (x ++ y) ≡ lines x ++ lines_from (kept_run x) y
  pub keeps : kept_run (x ++ y) ≡ kept_run (kept_run x ++ y)
