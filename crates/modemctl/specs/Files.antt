-- Files that the words name, and what is said where one can't be used.
use Rattle.std.specs.Prelude.{◌≡◌, ◌⊎◌, ℕ, ◌==◌, ◌||◌, Bool, true, false, List, ◌∷◌, ◌++◌, Option, Some, codes, if◌then◌else◌}
use Rattle.std.specs.List.{flat_map}
use Rattle.clap.specs.Words.{Text}
use Rattle.ctl_run.specs.Statuses.{status_of, stop_line, stop_lines}
use Rattle.ctl_run.specs.Stopping.{HasGivenUp}
use Rattle.ctl_run.specs.declared.stop.Stop.{Stop}
use Rattle.ctl_text.specs.Texts.{octet_text}
use Rattle.ctl_text.specs.Writing.{IsBegun}
use Rattle.modemctl.specs.declared.words.file_faults.FileFault.{FileFault}
use Rattle.modemctl.specs.declared.words.text_files.TextFault.{TextFault}

-- ## What is said of a file

-- an octet of a path, as an octet of a text; `\` stands before a quote and a `\`
abbrev pub quoted_octet : ℕ → List ℕ
quoted_octet c = if (c == 34) || (c == 92) then 92 ∷ octet_text c else octet_text c

-- a path in quotes
abbrev pub quoted : List ℕ → List ℕ
quoted path = codes "\"" ++ flat_map quoted_octet path ++ codes "\""

-- what can't be done with a file
abbrev pub cant_words : FileFault → List ℕ
cant_words (FileFault.Closed kind) = codes " can't be opened: "
cant_words (FileFault.Unmade kind) = codes " can't be made: "
cant_words FileFault.Unread = codes " can't be read"

-- a line about a file, behind this text: what it is for, its path, what can't be done with it, and these words for why
abbrev pub file_line : (first what path : List ℕ) → FileFault → (cause : List ℕ) → List ℕ
file_line first what path fault cause = first ++ codes "the " ++ what ++ codes " " ++ quoted path ++ cant_words fault ++ cause ++ codes "\n"

-- it is such a line, with some words for why
pub record IsFileLine (first what path : List ℕ) (fault : FileFault) (line : List ℕ) : Type 0 where
  pub cause : List ℕ
  pub line_is : line ≡ file_line first what path fault cause

-- such a line is said, or a beginning of it
pub record SaysFile (first what path : List ℕ) (fault : FileFault) (before after : Option (List ℕ)) : Type 0 where
  pub line : List ℕ
  pub is_line : IsFileLine first what path fault line
  pub said : IsBegun before after line

-- that is said, or that memory was refused
abbrev pub SaysWhy : (first what path : List ℕ) → FileFault → (before after : Option (List ℕ)) → Type 0
SaysWhy first what path fault before after = SaysFile first what path fault before after ⊎ IsBegun before after (stop_line Stop.NoMemory)

-- ## A file that is to be read

-- it can't be opened, or can't be read
abbrev pub IsToBeRead : FileFault → Type 0
IsToBeRead (FileFault.Closed kind) = Unit {0}
IsToBeRead (FileFault.Unmade kind) = ⊥
IsToBeRead FileFault.Unread = Unit {0}

-- it is said that an input failed, and on a second line, where that is to be explained, of which file that is so, and why
abbrev pub SaysUnread : (explained : Bool) (what path : List ℕ) → FileFault → (before after : Option (List ℕ)) → Type 0
SaysUnread true what path fault before after = SaysFile (stop_line Stop.Input) what path fault before after
SaysUnread false what path fault before after = IsBegun before after (stop_line Stop.Input)

-- the words name this file, and it is said that it can't be opened or read
pub record IsUnread (explained : Bool) (what : List ℕ) (path : Option Text) (before after : Option (List ℕ)) : Type 0 where
  pub named : Text
  pub path_is : path ≡ Some named
  pub fault : FileFault
  pub to_be_read : IsToBeRead fault
  pub says : SaysUnread explained what named fault before after

-- the cause of a stop is said, or a beginning of that, and this is its status
pub record SaysStop (explained : Bool) (before after : Option (List ℕ)) (status : ℕ) : Type 0 where
  pub stop : Stop
  pub has_status : status ≡ status_of stop
  pub said : IsBegun before after (stop_lines explained stop)

-- the status where the file gives nothing: 1 where it can't be opened, else that of the stop
abbrev pub text_status : TextFault → ℕ
text_status (TextFault.Closed kind) = 1
text_status (TextFault.Stopped stop) = status_of stop

-- the file that the words name gives nothing: it can't be opened or read, at status 1, or there is a cause to stop
abbrev pub IsNoText : (explained : Bool) (what : List ℕ) (path : Option Text) (before after : Option (List ℕ)) (status : ℕ) → Type 0
IsNoText explained what path before after status = ((status ≡ 1) × IsUnread explained what path before after) ⊎ SaysStop explained before after status

-- nothing was written to the output, since the file that the words name can't be opened or read, which is said beside it
pub record HasNoFile {O : Type 0} (explained : Bool) (what : List ℕ) (path : Option Text) (old new : O) (before after : Option (List ℕ)) : Type 0 where
  pub nothing : new ≡ old
  pub unread : IsUnread explained what path before after

-- what is said beside the output names the cause: that of a stop, or that the file of the dialect can't be opened or read; and nothing
-- was written to the output, unless that is what failed
abbrev pub NamesCause : {O : Type 0} → (explained : Bool) → (dialect : Option Text) → (old new : O) → (before after : Option (List ℕ)) → (status : ℕ) → Type 0
NamesCause explained dialect old new before after status =
    HasGivenUp explained old new before after status ⊎ HasNoFile explained (codes "dialect") dialect old new before after
