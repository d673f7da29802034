-- What is told, on a line of a terminal, of how much of a capture was read.
use Rattle.std.specs.Prelude.{◌≡◌, ℕ, ◌+◌, ◌*◌, ◌/◌, ◌≤◌, ◌⊎◌, Bool, true, zero, suc, List, [], ◌++◌, Option, IfSome, codes, length}
use Rattle.std.specs.Fmt.{decimal}
use Rattle.std.specs.Io.KnownBytes.{Appends, Consumes}
use Rattle.ctl_text.specs.Writing.{IsBegun}

-- so many octets lie between two texts: 4 MiB
abbrev pub step : ℕ
step = 4194304

-- the text of a step, at the beginning of the line
abbrev pub step_text : ℕ → List ℕ
step_text k = codes "read " ++ decimal (4 * k) ++ codes " MiB\r"

-- the texts of the first so many steps, one over the other
abbrev pub steps_text : ℕ → List ℕ
steps_text zero = []
steps_text (suc k) = steps_text k ++ step_text (suc k)

-- blanks over the last text, where there is one
abbrev pub clear_text : ℕ → List ℕ
clear_text zero = []
clear_text (suc k) = codes "                        \r"

-- all that is told of so many octets: the steps that they make whole, and then the line is cleared
abbrev pub progress_text : ℕ → List ℕ
progress_text n = steps_text (n / step) ++ clear_text (n / step)

-- what stands on the terminal, whether it is told there, and how many octets were read
pub record ProgressState : Type 0 where
  pub shown : Option (List ℕ)
  pub is_on : Bool
  pub read : ℕ

-- Behind what stood there before, the steps of so many octets are told. Once a write failed nothing more is told, and a beginning of
-- that stands there.
pub record IsTold (before : Option (List ℕ)) (p : ProgressState) (n : ℕ) : Type 0 where
  pub read : p.is_on ≡ true → p.read ≡ n
  pub whole : p.is_on ≡ true → Appends before p.shown (steps_text (n / step))
  pub begun : IsBegun before p.shown (steps_text (n / step))

-- the same, and the line is cleared
pub record HasTold (before : Option (List ℕ)) (p : ProgressState) (n : ℕ) : Type 0 where
  pub whole : p.is_on ≡ true → Appends before p.shown (progress_text n)
  pub begun : IsBegun before p.shown (progress_text n)

-- whatever was told before, so many octets more are
unfoldable pub Counts : (old new : ProgressState) → ℕ → Type 0
Counts old new count = (before : Option (List ℕ)) (n : ℕ) → IsTold before old n → IsTold before new (n + count)

-- a number of octets is counted, not more than the input has, where that is known
pub record CountsPart (input : Option (List ℕ)) (old new : ProgressState) : Type 0 where
  pub count : ℕ
  pub within : IfSome input (λ all. count ≤ length all)
  pub counts : Counts old new count

-- all octets of the input are counted, where these are known
pub record CountsAll (input : Option (List ℕ)) (old new : ProgressState) : Type 0 where
  pub count : ℕ
  pub all : IfSome input (λ all. count ≡ length all)
  pub counts : Counts old new count

-- Of an input all octets are told where it is shown to its end, by the status; else of no more than it has.
pub record TellsRead (input before : Option (List ℕ)) (p : ProgressState) (status : ℕ) : Type 0 where
  pub count : ℕ
  pub within : IfSome input (λ all. count ≤ length all)
  pub all : (status ≡ 0) ⊎ (status ≡ 3) → IfSome input (λ all. count ≡ length all)
  pub told : HasTold before p count

-- ## Rows

pub record AreTold : Type 0 where
  -- no step is whole yet
  pub none : progress_text 4194303 ≡ []
  pub one : progress_text 4194304 ≡ codes "read 4 MiB\r                        \r"
  -- all three stand at the beginning of the line, the last text under the blanks
  pub three : progress_text 16777215 ≡ codes "read 4 MiB\rread 8 MiB\rread 12 MiB\r                        \r"

-- ## Steps

-- the texts behind those of the first `told` steps, up to those of the first `steps`
pub record TellsSteps (told steps : ℕ) (before after : Option (List ℕ)) (is_whole : Bool) : Type 0 where
  pub text : List ℕ
  pub are : steps_text steps ≡ steps_text told ++ text
  pub whole : is_whole ≡ true → Appends before after text
  pub begun : IsBegun before after text

-- these octets of the input were read and counted
pub record CountsRead (input left : Option (List ℕ)) (old new : ProgressState) : Type 0 where
  pub octets : List ℕ
  pub read : Consumes input left octets
  pub counts : Counts old new (length octets)
