-- What the program prints at `drive`.
use Rattle.std.specs.Prelude.{◌≡◌, ℕ, ◌*◌, Bool, true, false, List, [], ◌∷◌, ◌++◌, All, Option, None, Some, codes, is_some, map}
use Rattle.std.specs.Fmt.{decimal}
use Rattle.clap.specs.Words.{Row, Text, first_value, found_of, one_text}
use Rattle.clap.specs.declared.ArgMatches.{ArgMatches}
use Rattle.at_text.specs.Rules.{FinalRule, Rules, with_rule}
use Rattle.at_text.specs.declared.rules.Form.TheVariants.{Prefix}
use Rattle.modem_data.specs.declared.begin.Begin.{Begin}
use Rattle.modem_data.specs.declared.begin.Begin.TheVariants.{AtOnce, ByConnect, ByPrompt}
use Rattle.ctl_drive.specs.DataDevice.{RanFiles}
use Rattle.ctl_drive.specs.Driving.{period_of}
use Rattle.file_threads.specs.DataPaths.{opened_files}
use Rattle.ctl_drive.specs.Entry.{entry_for}
use Rattle.ctl_drive.specs.OnDevice.{RanDevice}
use Rattle.file_threads.specs.declared.data_path.DataPath.{DataPath}
use Rattle.modemctl.specs.Dialects.{IsGivenDialect}
use Rattle.modemctl.specs.Shows.{all_in, given_for}
use Rattle.modemctl.specs.Words.{IsGiven, IsNumberOf, is_set, raw_in}

-- a connection and the path of the file beside it: D=PATH
abbrev pub data_path_text : DataPath → Text
data_path_text p = decimal p.dlci.number ++ 61 ∷ p.path.now

-- connections with files, by their texts, and how the data of each begins; none where there are no texts
abbrev pub AreDataPaths : Option (List Text) → Begin → List DataPath → Type 0
AreDataPaths None begin data_paths = data_paths ≡ []
AreDataPaths (Some texts) begin data_paths = (texts ≡ map (λ p. data_path_text p) data_paths) × All (λ p. p.begin ≡ begin) data_paths

-- how the data of `--data` begins: behind a CONNECT line, or at once
abbrev pub begin_by : (by_connect : Bool) → Begin
begin_by true = ByConnect
begin_by false = AtOnce

-- what these options take, which is said where their texts aren't such; `options` is their names and the verb
abbrev pub paths_line : (options : List ℕ) → List ℕ
paths_line options =
    codes "error: " ++ options ++ codes " D=PATH, with a connection from 1 to 61, each once, and 8 of them at most" ++ 10 ∷ []

-- the connections with files of `--data`, and behind them those of `--text`, which is sent behind a prompt
pub record AreFiles (paths texts : Option (List Text)) (by_connect : Bool) (data_paths : List DataPath) : Type 0 where
  pub of_data : List DataPath
  pub of_text : List DataPath
  pub joined : data_paths ≡ of_data ++ of_text
  pub data_are : AreDataPaths paths (begin_by by_connect) of_data
  pub texts_are : AreDataPaths texts ByPrompt of_text

-- the codes of a drive: where data begins behind a CONNECT line, a line that begins so ends a command too
abbrev pub drive_rules : (by_connect : Bool) → Rules → Rules
drive_rules false rules = rules
drive_rules true rules = with_rule rules (FinalRule Prefix (codes "CONNECT"))

-- they are so those of the dialect that is given
pub record IsDriveDialect (texts : Text → Option (List ℕ)) (name : Option Text) (by_connect : Bool) (rules : Rules) : Type 0 where
  pub own : Rules
  pub named : IsGivenDialect texts name own
  pub rules_are : rules ≡ drive_rules by_connect own

-- a device was driven without a fault, with these files beside connections, if there are any
abbrev pub RanBy : List DataPath → (captures : Bool) (rules : Rules) (text : List ℕ) (n1 period : ℕ) (before after silent said : Option (List ℕ))
    (was_bad : Bool) → Type 0
RanBy [] captures rules text n1 period before after silent said was_bad = RanDevice captures rules text n1 period before after silent said was_bad
RanBy (p ∷ more) captures rules text n1 period before after silent said was_bad =
    RanFiles captures rules text n1 period (opened_files false (p ∷ more)) before after silent said was_bad

-- the same with the files that these texts give, of `--data` and of `--text`
pub record RanGiven (paths texts : Option (List Text)) (by_connect : Bool) (captures : Bool) (rules : Rules) (text : List ℕ) (n1 period : ℕ)
    (before after silent said : Option (List ℕ)) (was_bad : Bool) : Type 0 where
  pub data_paths : List DataPath
  pub given : AreFiles paths texts by_connect data_paths
  pub ran : RanBy data_paths captures rules text n1 period before after silent said was_bad

-- so many nanoseconds are the milliseconds that the text of `--tick` says, or 100 without one
pub record IsTick (text : Option Text) (nanos : ℕ) : Type 0 where
  pub tick : ℕ
  pub said : IsNumberOf 100 text tick
  pub same : nanos ≡ tick * 1000000

-- the nanoseconds from tick to tick, for milliseconds of the words
abbrev pub millis : ℕ → ℕ
millis n = period_of (n * 1000000)

-- a device was driven without a fault, with the N1 and the ticks of the words, the codes of their dialect, and the files that they name beside
-- connections, and entered by their text, or by that of this N1 where they give none; this was printed, and where they name a file for
-- a capture it was captured. It is given whether a line was bad, and what stood beside the output before and stands there since.
pub record PrintsDrive (texts : Text → Option (List ℕ)) (met : Option (Text × List Row)) (before after silent said : Option (List ℕ))
    (was_bad : Bool) : Type 0 where
  pub n1 : ℕ
  pub given : IsGiven met (codes "n1") 31 n1
  pub rules : Rules
  pub named : IsDriveDialect texts (raw_in met (codes "dialect")) (is_set (raw_in met (codes "arm"))) rules
  pub tick : ℕ
  pub ticks : IsGiven met (codes "tick") 100 tick
  pub drove :
      RanGiven (all_in met (codes "data")) (all_in met (codes "text")) (is_set (raw_in met (codes "arm")))
      (is_some (raw_in met (codes "capture"))) rules
      (entry_for (raw_in met (codes "entry")) n1) n1 (millis tick) before after silent said was_bad

-- a device was driven so, with the files that the matches of the subcommand have
abbrev pub RanWith : (m : ArgMatches) (captures : Bool) (rules : Rules) (text : List ℕ) (n1 period : ℕ)
    (before after silent said : Option (List ℕ)) (was_bad : Bool) → Type 0
RanWith m captures rules text n1 period before after silent said was_bad =
    RanGiven (given_for m (codes "data")) (given_for m (codes "text"))
    (is_set (first_value (found_of m) (codes "arm"))) captures rules text n1 period before after silent said was_bad

-- and with the other options that they have
pub record DrivesWith (texts : Text → Option (List ℕ)) (n1 : ℕ) (m : ArgMatches) (before after silent said : Option (List ℕ))
    (was_bad : Bool) : Type 0 where
  pub rules : Rules
  pub named :
      IsDriveDialect texts (first_value (found_of m) (codes "dialect")) (is_set (first_value (found_of m) (codes "arm"))) rules
  pub tick : ℕ
  pub ticks : IsNumberOf 100 (one_text (found_of m) (codes "tick")) tick
  pub drove :
      RanWith m (is_some (first_value (found_of m) (codes "capture"))) rules
      (entry_for (first_value (found_of m) (codes "entry")) n1) n1 (millis tick) before after silent said was_bad
