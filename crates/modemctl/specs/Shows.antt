-- What the program prints at `show`, by what its words give, and by what stands in the files that they name (`texts`).
use Rattle.std.specs.Prelude.{◌≡◌, ◌⊎◌, ℕ, Bool, true, List, [], map, codes, Option, None, Some, option_and_then, option_map}
use Rattle.std.specs.Fmt.{decimal}
use Rattle.std.specs.declared.io.ErrorKind.{ErrorKind}
use Rattle.clap.specs.Words.{Row, Text, all_of, first_value, found_of, matched_of, one_text, raw_values}
use Rattle.clap.specs.declared.ArgMatches.{ArgMatches}
use Rattle.mux_frame.specs.declared.dlci.Dlci.{Dlci}
use Rattle.ctl_run.specs.Statuses.{stop_line}
use Rattle.ctl_run.specs.declared.stop.Stop.TheVariants as Stop
use Rattle.ctl_text.specs.Writing.{IsBegun}
use Rattle.show_texts.specs.Captures.{HasShown, SaysFault}
use Rattle.show_texts.specs.Merging.{HasShownUntimed}
use Rattle.show_texts.specs.Options.{setting_by}
use Rattle.show_texts.specs.Progress.{ProgressState, TellsRead}
use Rattle.show_texts.specs.declared.run.ShowOptions.{ShowOptions}
use Rattle.modemctl.specs.Benches.{IsFlag}
use Rattle.modemctl.specs.Dialects.{IsGivenDialect}
use Rattle.modemctl.specs.Files.{IsNoText, SaysWhy}
use Rattle.modemctl.specs.Words.{IsGiven, raw_in, text_in}
use Rattle.modemctl.specs.declared.words.file_faults.FileFault.TheVariants as FileFault

-- all texts that the words give for an option
abbrev pub all_in : Option (Text × List Row) → (option : Text) → Option (List Text)
all_in met option = option_and_then (λ p. all_of option p.1) met

-- the same texts, as the matches of the subcommand have them
abbrev pub given_for : ArgMatches → (option : Text) → Option (List Text)
given_for m option = option_map raw_values (matched_of (found_of m) option)

-- connections by their numbers in decimal; none where there are no texts
abbrev pub AreChannels : Option (List Text) → List Dlci → Type 0
AreChannels None channels = channels ≡ []
AreChannels (Some texts) channels = texts ≡ map (λ d. decimal d.number) channels

-- the N1, the codes, the connections of data and the strictness that the words give
pub record AreWanted (texts : Text → Option (List ℕ)) (met : Option (Text × List Row)) (options : ShowOptions) : Type 0 where
  pub n1_given : IsGiven met (codes "n1") 31 options.n1
  pub named : IsGivenDialect texts (raw_in met (codes "dialect")) options.dialect
  pub data_given : AreChannels (all_in met (codes "data")) options.data_channels.items
  pub strict_given : IsFlag (text_in met (codes "strict")) options.strict

-- the capture in this file was shown so; or the octets to the modem in it, and in another file those from there
abbrev pub ShowsFiles : (texts : Text → Option (List ℕ)) → ShowOptions → (raw : Option Text) (path : Text) (before after : Option (List ℕ)) (status : ℕ) → Type 0
ShowsFiles texts o None path before after status = HasShown (setting_by o) o.strict (texts path) before after status
ShowsFiles texts o (Some from) path before after status =
    HasShownUntimed (setting_by o) o.strict (texts path) (texts from) before after status

-- the files that the words name were shown so
pub record PrintsShow (texts : Text → Option (List ℕ)) (met : Option (Text × List Row)) (before after : Option (List ℕ)) (status : ℕ) : Type 0 where
  pub options : ShowOptions
  pub wanted : AreWanted texts met options
  pub path : Text
  pub path_is : raw_in met (codes "file") ≡ Some path
  pub shown : ShowsFiles texts options (raw_in met (codes "raw")) path before after status

-- the same options, as the matches of the subcommand have them
pub record AreWantedBy (texts : Text → Option (List ℕ)) (n1 : ℕ) (m : ArgMatches) (options : ShowOptions) : Type 0 where
  pub n1_is : options.n1 ≡ n1
  pub named : IsGivenDialect texts (first_value (found_of m) (codes "dialect")) options.dialect
  pub data_given : AreChannels (given_for m (codes "data")) options.data_channels.items
  pub strict_given : IsFlag (one_text (found_of m) (codes "strict")) options.strict

-- the files that the matches of the subcommand name were shown so
pub record ShowsWith (texts : Text → Option (List ℕ)) (n1 : ℕ) (m : ArgMatches) (before after : Option (List ℕ)) (status : ℕ) : Type 0 where
  pub options : ShowOptions
  pub wanted : AreWantedBy texts n1 m options
  pub path : Text
  pub path_is : first_value (found_of m) (codes "file") ≡ Some path
  pub shown : ShowsFiles texts options (first_value (found_of m) (codes "raw")) path before after status

-- ## Progress

-- of the capture in this file it was told, where that is wanted, how much was read; of the octets of both ways nothing is told
abbrev pub TellsFiles : (texts : Text → Option (List ℕ)) (raw : Option Text) (path : Text) (before : Option (List ℕ)) → ProgressState → (status : ℕ) → Type 0
TellsFiles texts None path before p status = TellsRead (texts path) before p status
TellsFiles texts (Some from) path before p status = p.shown ≡ before

-- that was told of the files that the words name
abbrev pub TellsShow : (texts : Text → Option (List ℕ)) (raw file : Option Text) (before : Option (List ℕ)) → ProgressState → (status : ℕ) → Type 0
TellsShow texts raw None before p status = p.shown ≡ before
TellsShow texts raw (Some path) before p status = TellsFiles texts raw path before p status

-- ## Faults

-- of the file of this path, which is there for this, it is said that it can't be opened; or that memory was refused, or why what is read
-- isn't shown to its end
pub data SaysUnread (what path : Text) (before after : Option (List ℕ)) (status : ℕ) : Type 0 where
  closed : (kind : ErrorKind) → SaysWhy (codes "fault: ") what path (FileFault.Closed kind) before after → SaysUnread what path before after status
  no_memory : IsBegun before after (stop_line Stop.NoMemory) → SaysUnread what path before after status
  cut : SaysFault before after status → SaysUnread what path before after status

-- that is said of a capture, or of one of two files of octets
abbrev pub SaysUnreadOf : (raw : Option Text) (path : Text) (before after : Option (List ℕ)) (status : ℕ) → Type 0
SaysUnreadOf None path before after status = SaysUnread (codes "capture") path before after status
SaysUnreadOf (Some from) path before after status =
    SaysUnread (codes "octets") path before after status ⊎ SaysUnread (codes "octets") from before after status

-- the words name a file, and that is said of it, or of the other
pub record NamesUnread (raw path : Option Text) (before after : Option (List ℕ)) (status : ℕ) : Type 0 where
  pub named : Text
  pub path_is : path ≡ Some named
  pub says : SaysUnreadOf raw named before after status

-- what is said is why the dialect that the words name isn't had, or another cause to stop, or is said of the files that they name
abbrev pub SaysUnshown : (dialect raw file : Option Text) (before after : Option (List ℕ)) (status : ℕ) → Type 0
SaysUnshown dialect raw file before after status =
    IsNoText true (codes "dialect") dialect before after status ⊎ NamesUnread raw file before after status

-- the words name a file of which it is known that it can't be opened
abbrev pub IsShutFile : (shut : Text → Bool) (path : Option Text) → Type 0
IsShutFile shut None = ⊥
IsShutFile shut (Some path) = shut path ≡ true
