-- The input of a bench.
use Rattle.std.specs.Prelude.{◌≡◌, ◌≢◌, ℕ, ◌<◌, List, [], ◌∷◌, ◌++◌}
use Rattle.modem_bench.specs.declared.submission.Submission.{Submission}
use Rattle.ctl_text.specs.Words.{IsCommand, number_text}

-- the line submits this: a caller, one blank, and a command on a connection
pub record Submits (callers : ℕ) (line : List ℕ) (s : Submission) : Type 0 where
  pub caller : s.caller < callers
  pub words : List ℕ
  pub line_is : line ≡ number_text s.caller ++ 32 ∷ words
  pub command : IsCommand words s.dlci.number s.line

-- the line submits nothing
abbrev pub SubmitsNothing : ℕ → List ℕ → Type 0
SubmitsNothing callers line = (s : Submission) → Submits callers line s → ⊥

-- the line isn't empty, and submits nothing
abbrev pub IsNoSubmission : ℕ → List ℕ → Type 0
IsNoSubmission callers line = (line ≢ []) × SubmitsNothing callers line

-- the lines that aren't empty submit these, in order
abbrev pub AreSubmitted : ℕ → List (List ℕ) → List Submission → Type 0
AreSubmitted callers [] [] = Unit {0}
AreSubmitted callers [] (s ∷ all) = ⊥
AreSubmitted callers ([] ∷ lines) all = AreSubmitted callers lines all
AreSubmitted callers ((c ∷ line) ∷ lines) [] = ⊥
AreSubmitted callers ((c ∷ line) ∷ lines) (s ∷ all) =
    Submits callers (c ∷ line) s × AreSubmitted callers lines all
