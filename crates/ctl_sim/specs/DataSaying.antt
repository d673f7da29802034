-- What is said of a modem with files beside connections, where it ends or isn't begun.
use Rattle.std.specs.Prelude.{◌≡◌, ◌⊎◌, ℕ, Bool, true, false, List, [], ◌∷◌, ◌++◌, Option, IfSome, codes}
use Rattle.std.specs.Fmt.{debug_str}
use Rattle.ctl_text.specs.Writing.{IsBegun}
use Rattle.file_threads.specs.declared.fault.FileFault.{FileFault}
use Rattle.file_threads.specs.declared.fault.FileFault.TheVariants as file
use Rattle.ctl_sim.specs.declared.data_fault.DataFault.{DataFault}
use Rattle.ctl_sim.specs.declared.data_fault.DataFault.TheVariants as fault
use Rattle.ctl_sim.specs.declared.fault.ServeFault.TheVariants.{NoMemory}
use Rattle.ctl_sim.specs.Saying.{fault_words}

-- of a file that can't be had, but for its path and the cause
abbrev pub file_words : FileFault → List ℕ
file_words file.NoMemory = fault_words NoMemory
file_words file.NoThread = codes "fault: no thread: the system starts no more of them, or has no memory for one"
file_words (file.NoDevice kind) = codes "fault: a file of --data can't be opened"
file_words file.NotSetUp = codes "fault: a file of --data is a regular file"

-- of a fault, but for the path and the cause of what can't be opened
abbrev pub data_fault_words : DataFault → List ℕ
data_fault_words (fault.Served why) = fault_words why
data_fault_words (fault.File why) = file_words why
data_fault_words fault.Connections = codes "fault: at most 8 connections carry data, each named once, and not 0"
data_fault_words fault.Unwritten = codes "fault: what came on a connection that carries data wasn't all written to its file"

-- the same as a line
abbrev pub data_fault_line : DataFault → List ℕ
data_fault_line why = data_fault_words why ++ 10 ∷ []

-- it concerns a file: that can't be opened, or is a regular one
abbrev pub concerns_file : FileFault → Bool
concerns_file (file.NoDevice kind) = true
concerns_file file.NotSetUp = true
concerns_file file.NoThread = false
concerns_file file.NoMemory = false

-- a line names the file of this path, between quotation marks, and says why it can't be had
pub record NamesFile (path : List ℕ) (before after : Option (List ℕ)) : Type 0 where
  pub quoted : List ℕ
  pub quoted_is : IfSome (debug_str path) (λ text. quoted ≡ text)
  pub rest : List ℕ
  pub said : IsBegun before after (codes "fault: the file " ++ quoted ++ rest ++ 10 ∷ [])

-- the fault concerns the file, which is named on such a line
pub record SaysFile (path : List ℕ) (why : FileFault) (before after : Option (List ℕ)) : Type 0 where
  pub concerns : concerns_file why ≡ true
  pub names : NamesFile path before after

-- it was said why the file of this path can't be had: on such a line where that concerns the file, unless memory was refused
abbrev pub SaysUnopened : (path : List ℕ) → FileFault → (before after : Option (List ℕ)) → Type 0
SaysUnopened path why before after = SaysFile path why before after ⊎ IsBegun before after (data_fault_line (fault.File why))
