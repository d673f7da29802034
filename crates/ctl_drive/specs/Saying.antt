-- What a drive says beside its output: which lines of the input are bad, what is left undone, and why it ended.
use Rattle.std.specs.Prelude.{◌≡◌, ◌≢◌, ◌⊎◌, ℕ, ◌+◌, ◌==◌, Bool, true, false, List, [], ◌∷◌, ◌++◌, Option, Some, IfSome, codes, map, if◌then◌else◌}
use Rattle.std.specs.Fmt.{debug_str, decimal}
use Rattle.ctl_text.specs.LineFaults.{CommandFault, bad_line, reason_line}
use Rattle.ctl_text.specs.Words.{IsCommand, IsNoCommand}
use Rattle.ctl_text.specs.Writing.{IsBegun}
use Rattle.ctl_text.specs.declared.expected.Expected.{Expected}
use Rattle.file_threads.specs.Said.{AreSaid}
use Rattle.ctl_drive.specs.Faults.{fault_head, fault_words}
use Rattle.ctl_drive.specs.declared.fault.DriveFault.{DriveFault}
use Rattle.ctl_drive.specs.declared.fault.DriveFault.TheVariants as fault

-- ## Bad lines

-- the line is a command on a connection
pub record IsSomeCommand (line : List ℕ) : Type 0 where
  pub dlci : ℕ
  pub text : List ℕ
  pub command : IsCommand line dlci text

-- the line is empty, or a command
abbrev pub IsGood : List ℕ → Type 0
IsGood line = (line ≡ []) ⊎ IsSomeCommand line

-- the line is neither empty nor a command, and this part of it is the first that isn't as it must be
pub record IsBadFor (line : List ℕ) (why : Expected) : Type 0 where
  pub some : line ≢ []
  pub none : IsNoCommand line
  pub fault : CommandFault line why

-- a bad line: its place among all lines, counted from 1, and its first part that isn't as it must be
pub record BadLine : Type 0 where
  pub place : ℕ
  pub why : Expected

-- the bad ones among these lines, in order, where the first of the lines has this place
pub data AreBadFrom : (place : ℕ) → (lines : List (List ℕ)) → (bad : List BadLine) → Type 0 where
  bad_none : (place : ℕ) → AreBadFrom place [] []
  bad_passed : (place : ℕ) (line : List ℕ) (lines : List (List ℕ)) (bad : List BadLine) → IsGood line
      → AreBadFrom (place + 1) lines bad → AreBadFrom place (line ∷ lines) bad
  bad_next : (place : ℕ) (line : List ℕ) (why : Expected) (lines : List (List ℕ)) (bad : List BadLine) → IsBadFor line why
      → AreBadFrom (place + 1) lines bad → AreBadFrom place (line ∷ lines) (record { place = place; why = why } ∷ bad)

-- the bad ones among all lines, which are counted from 1
abbrev pub AreBad : (lines : List (List ℕ)) → (bad : List BadLine) → Type 0
AreBad lines bad = AreBadFrom 1 lines bad

-- whether there is any
abbrev pub is_any : List BadLine → Bool
is_any [] = false
is_any (line ∷ more) = true

-- `bad line N`, and on a second line what has to stand there
abbrev pub bad_text : (place : ℕ) → Expected → List ℕ
bad_text place why = bad_line (decimal place) ++ reason_line [] why

abbrev pub bad_texts : List BadLine → List (List ℕ)
bad_texts bad = map (λ (line : BadLine). bad_text line.place line.why) bad

-- ## What a writer was given

-- each bad one of these lines was named, in order, and nothing else was said; and whether one of them is bad
pub record NamesBad (lines : List (List ℕ)) (was_bad : Bool) (before after : Option (List ℕ)) : Type 0 where
  pub bad : List BadLine
  pub bad_are : AreBad lines bad
  pub said : AreSaid before after (bad_texts bad)
  pub any : was_bad ≡ is_any bad

-- the line at this place was named if it is bad, and nothing was said if it isn't; and whether one was bad up to it
abbrev pub Names : (place : ℕ) (line : List ℕ) (was_bad is_bad : Bool) (before after : Option (List ℕ)) → Type 0
Names place line was_bad is_bad before after =
    (IsGood line × (is_bad ≡ was_bad) × (after ≡ before))
    ⊎ ((why : Expected) × IsBadFor line why × (is_bad ≡ true) × IsBegun before after (bad_text place why))

-- ## What is left undone

-- `left N requests`
abbrev pub left_text : ℕ → List ℕ
left_text n = codes "left " ++ decimal n ++ codes " requests" ++ 10 ∷ []

-- that, where any were left
abbrev pub left_texts : ℕ → List (List ℕ)
left_texts n = if n == 0 then [] else left_text n ∷ []

-- ## Faults

-- the line names the path of a file too: it begins as that of the fault, and then comes the path as `{:?}` prints it
pub record NamesPath (path : List ℕ) (why : DriveFault) (line : List ℕ) : Type 0 where
  pub head : List ℕ
  pub head_is : fault_head why ≡ Some head
  pub quoted : List ℕ
  pub quoted_is : IfSome (debug_str path) (λ text. quoted ≡ text)
  pub rest : List ℕ
  pub line_is : line ≡ head ++ quoted ++ rest ++ 10 ∷ []

-- the line of a fault is its words, or names the path
abbrev pub IsFaultLine : (path : List ℕ) → DriveFault → List ℕ → Type 0
IsFaultLine path why line = (line ≡ fault_words why ++ 10 ∷ []) ⊎ NamesPath path why line

-- that of the capture where the fault concerns its file, else that of the device
abbrev pub path_for : (device capture : List ℕ) → DriveFault → List ℕ
path_for device capture (fault.NoCapture why) = capture
path_for device capture (fault.NoDevice why) = device
path_for device capture fault.NotSetUp = device
path_for device capture fault.NoMemory = device
path_for device capture fault.NoThread = device
path_for device capture fault.Input = device
path_for device capture fault.Output = device
path_for device capture fault.Refused = device
path_for device capture fault.NoAnswer = device
path_for device capture fault.NotOpened = device
path_for device capture fault.Closed = device
path_for device capture fault.HungUp = device
path_for device capture fault.Silent = device
path_for device capture fault.Capture = device
path_for device capture fault.Data = device
path_for device capture fault.Unwritten = device
path_for device capture (fault.GaveUp cause) = device

-- the line of this fault was given to the writer
pub record SaysFault (path : List ℕ) (why : DriveFault) (before after : Option (List ℕ)) : Type 0 where
  pub line : List ℕ
  pub line_is : IsFaultLine path why line
  pub begun : IsBegun before after line
