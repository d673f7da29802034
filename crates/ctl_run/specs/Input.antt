-- The lines of an input, and which is bad.
use Rattle.std.specs.Prelude.{◌≡◌, ℕ, ◌+◌, List, ◌∷◌, ◌++◌, length}
use Rattle.std.specs.List.{All}
use Rattle.ctl_text.specs.declared.expected.Expected.{Expected}
use Rattle.ctl_run.specs.declared.stop.Stop.{Stop}

-- the line at this place, counted from 1, is bad and has this fault, and none before it is bad
pub record IsFirstBad (IsBad : List ℕ → Type 0) (Has : List ℕ → Expected → Type 0) (lines : List (List ℕ)) (place : ℕ) (why : Expected) :
    Type 0 where
  pub before : List (List ℕ)
  pub line : List ℕ
  pub after : List (List ℕ)
  pub split : lines ≡ before ++ line ∷ after
  pub counted : place ≡ length before + 1
  pub good : All (λ good. IsBad good → ⊥) before
  pub bad : IsBad line
  pub fault : Has line why

-- some line is bad
pub record HasBad (IsBad : List ℕ → Type 0) (Has : List ℕ → Expected → Type 0) (lines : List (List ℕ)) : Type 0 where
  pub place : ℕ
  pub why : Expected
  pub first : IsFirstBad IsBad Has lines place why

-- why lines aren't read: the first bad one is named with its fault, or memory was refused
abbrev pub IsReason : (IsBad : List ℕ → Type 0) (Has : List ℕ → Expected → Type 0) → List (List ℕ) → Stop → Type 0
IsReason IsBad Has lines Stop.NoMemory = Unit {0}
IsReason IsBad Has lines (Stop.BadLine place why) = IsFirstBad IsBad Has lines place why
IsReason IsBad Has lines Stop.Input = ⊥
IsReason IsBad Has lines Stop.Output = ⊥
IsReason IsBad Has lines Stop.Line = ⊥
IsReason IsBad Has lines (Stop.GaveUp cause) = ⊥
IsReason IsBad Has lines Stop.BadN1 = ⊥
IsReason IsBad Has lines Stop.BadCallers = ⊥
IsReason IsBad Has lines Stop.BadCut = ⊥
IsReason IsBad Has lines (Stop.Dialect fault) = ⊥
