-- The words of a line.
use Rattle.std.specs.Prelude.{◌≡◌, ℕ, ◌+◌, ◌/◌, ◌%◌, ◌<◌, ◌≤◌, nat_lt, List, [], ◌∷◌, ◌++◌, None, if◌then◌else◌}
use Rattle.at_text.specs.Commands.{refusal_of}

-- a number below 100 in decimal, without leading zeros
abbrev pub number_text : ℕ → List ℕ
number_text n = if nat_lt n 10 then (48 + n) ∷ [] else (48 + n / 10) ∷ (48 + n % 10) ∷ []

-- the words are a connection that carries commands, one blank and a command line
pub record IsCommand (words : List ℕ) (d : ℕ) (line : List ℕ) : Type 0 where
  pub carries : 1 ≤ d
  pub known : d < 62
  pub is_line : refusal_of line ≡ None
  pub words_are : words ≡ number_text d ++ 32 ∷ line

-- the words are no such thing
abbrev pub IsNoCommand : List ℕ → Type 0
IsNoCommand words = (d : ℕ) (line : List ℕ) → IsCommand words d line → ⊥
