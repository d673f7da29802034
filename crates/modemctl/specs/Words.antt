-- The words of the program.
use Rattle.std.specs.Prelude.{◌≡◌, ◌⊎◌, ◌||◌, ℕ, pos, Bool, true, false, List, [], ◌∷◌, Option, None, Some, String, map, option_and_then, option_map, string_bytes, codes}
use Rattle.std.specs.Fmt.{decimal}
use Rattle.std.specs.Str.{bytes_eq}
use Rattle.std.specs.declared.alloc.Global.{Global}
use Rattle.clap.specs.Words.{App, IsAmong, Kinds, Row, Rule, Text, first_of, one_of, fault_of, new_app, new_rule, subcommand_of, with_rule, with_subcommand}
use Rattle.clap.specs.declared.builder.ArgAction.TheVariants.{Append, Set, SetTrue}
use Rattle.clap.specs.declared.error.ErrorKind.TheVariants.{DisplayHelp, DisplayVersion}
use Rattle.clap.specs.declared.builder.ValueParser.TheVariants.{Signed}

-- the option `--n1`: a number from 31 to 32767, and 31 where it isn't there
abbrev pub n1_rule : Rule
n1_rule = record (new_rule (codes "n1")) {
  long = Some (codes "n1");
  action = Some Set;
  value_names = 1;
  defaults = codes "31" ∷ [];
  parser = Some (Signed (pos 31) (pos 32767));
}

-- a subcommand with that option
abbrev pub subcommand_app : Text → App
subcommand_app name = with_rule (new_app name) n1_rule

-- the option `--dialect`: a text
abbrev pub dialect_rule : Rule
dialect_rule = record (new_rule (codes "dialect")) { long = Some (codes "dialect"); action = Some Set; value_names = 1 }

-- the option `--explain`, which has no value
abbrev pub explain_rule : Rule
explain_rule = record (new_rule (codes "explain")) { long = Some (codes "explain"); action = Some SetTrue }

-- the subcommand with `--n1` and that
abbrev pub frames_app : App
frames_app = with_rule (subcommand_app (codes "frames")) explain_rule

-- the subcommand with all three options
abbrev pub replay_app : App
replay_app = with_rule (with_rule (subcommand_app (codes "replay")) dialect_rule) explain_rule

-- the option `--callers`: a number from 1 to 8, and 2 where it isn't there
abbrev pub callers_rule : Rule
callers_rule = record (new_rule (codes "callers")) {
  long = Some (codes "callers");
  action = Some Set;
  value_names = 1;
  defaults = codes "2" ∷ [];
  parser = Some (Signed (pos 1) (pos 8));
}

-- the option `--cut`: a number from 1 to 4096, and 64 where it isn't there
abbrev pub cut_rule : Rule
cut_rule = record (new_rule (codes "cut")) {
  long = Some (codes "cut");
  action = Some Set;
  value_names = 1;
  defaults = codes "64" ∷ [];
  parser = Some (Signed (pos 1) (pos 4096));
}

-- the subcommand with these two options and `--explain`
abbrev pub bench_app : App
bench_app = with_rule (with_rule (with_rule (new_app (codes "bench")) callers_rule) cut_rule) explain_rule

-- the program's own name, which wants a subcommand behind it
abbrev pub wanting_one : App
wanting_one =
    record (new_app (codes "modemctl"))
    { top = record (new_app (codes "modemctl")).top { subcommand_required = true } }

-- the same with two subcommands
abbrev pub with_one : App
with_one = with_subcommand wanting_one frames_app.top

-- the same with a replay
abbrev pub with_two : App
with_two = with_subcommand with_one replay_app.top

-- the same with a bench
abbrev pub with_three : App
with_three = with_subcommand with_two bench_app.top

-- the option `--pin`: a text
abbrev pub pin_rule : Rule
pin_rule = record (new_rule (codes "pin")) { long = Some (codes "pin"); action = Some Set; value_names = 1 }

-- the option `--echo`, which has no value
abbrev pub echo_rule : Rule
echo_rule = record (new_rule (codes "echo")) { long = Some (codes "echo"); action = Some SetTrue }

-- the option `--script`: a text
abbrev pub script_rule : Rule
script_rule = record (new_rule (codes "script")) { long = Some (codes "script"); action = Some Set; value_names = 1 }

-- the option `--answers`: a text
abbrev pub answers_rule : Rule
answers_rule = record (new_rule (codes "answers")) { long = Some (codes "answers"); action = Some Set; value_names = 1 }

-- the option `--capture`: a text
abbrev pub capture_rule : Rule
capture_rule = record (new_rule (codes "capture")) { long = Some (codes "capture"); action = Some Set; value_names = 1 }

-- the option `--data` of a modem for a client, and of a drive: a text, as often as is wanted
abbrev pub data_path_rule : Rule
data_path_rule = record (new_rule (codes "data")) { long = Some (codes "data"); action = Some Append; value_names = 1 }

-- the subcommand with these options and `--n1`
abbrev pub sim_app : App
sim_app =
    with_rule
    (with_rule
    (with_rule (with_rule (with_rule (with_rule (with_rule (new_app (codes "sim")) n1_rule) pin_rule) echo_rule) script_rule) answers_rule)
    capture_rule)
    data_path_rule

-- the same with a modem
abbrev pub with_four : App
with_four = with_subcommand with_three sim_app.top

-- the option `--tick`: a number from 10 to 60000, and 100 where it isn't there
abbrev pub tick_rule : Rule
tick_rule = record (new_rule (codes "tick")) {
  long = Some (codes "tick");
  action = Some Set;
  value_names = 1;
  defaults = codes "100" ∷ [];
  parser = Some (Signed (pos 10) (pos 60000));
}

-- the option `--quiet-for`: a number from 1 to 60000
abbrev pub quiet_rule : Rule
quiet_rule = record (new_rule (codes "quiet-for")) {
  long = Some (codes "quiet-for");
  action = Some Set;
  value_names = 1;
  parser = Some (Signed (pos 1) (pos 60000));
}

-- the option `--entry`: a text
abbrev pub entry_rule : Rule
entry_rule = record (new_rule (codes "entry")) { long = Some (codes "entry"); action = Some Set; value_names = 1 }

-- the option `--arm`, which has no value
abbrev pub arm_rule : Rule
arm_rule = record (new_rule (codes "arm")) { long = Some (codes "arm"); action = Some SetTrue }

-- the option `--text` of a drive: a text, as often as is wanted
abbrev pub text_path_rule : Rule
text_path_rule = record (new_rule (codes "text")) { long = Some (codes "text"); action = Some Append; value_names = 1 }

-- the device, a word that has to be there
abbrev pub device_rule : Rule
device_rule = record (new_rule (codes "device")) { action = Some Set; value_names = 1; required = true }

-- the subcommand with these and `--n1`
abbrev pub drive_app : App
drive_app =
    with_rule
    (with_rule
    (with_rule
    (with_rule
    (with_rule (with_rule (with_rule (with_rule (with_rule (subcommand_app (codes "drive")) tick_rule) quiet_rule) entry_rule) dialect_rule) capture_rule)
    data_path_rule)
    arm_rule)
    text_path_rule)
    device_rule

-- the same with a drive
abbrev pub with_five : App
with_five = with_subcommand with_four drive_app.top

-- the option `--data`: a number from 1 to 61, as often as is wanted
abbrev pub data_rule : Rule
data_rule = record (new_rule (codes "data")) {
  long = Some (codes "data");
  action = Some Append;
  value_names = 1;
  parser = Some (Signed (pos 1) (pos 61));
}

-- the option `--strict`, which has no value
abbrev pub strict_rule : Rule
strict_rule = record (new_rule (codes "strict")) { long = Some (codes "strict"); action = Some SetTrue }

-- the option `--raw`: a text
abbrev pub raw_rule : Rule
raw_rule = record (new_rule (codes "raw")) { long = Some (codes "raw"); action = Some Set; value_names = 1 }

-- the file, a word that has to be there
abbrev pub file_rule : Rule
file_rule = record (new_rule (codes "file")) { action = Some Set; value_names = 1; required = true }

-- the subcommand with these, `--n1` and `--dialect`
abbrev pub show_app : App
show_app =
    with_rule (with_rule (with_rule (with_rule (with_rule (subcommand_app (codes "show")) dialect_rule) data_rule) strict_rule) raw_rule)
    file_rule

-- the program, with its six subcommands
abbrev pub program_app : App
program_app = with_subcommand with_five show_app.top

-- the texts of the words
abbrev pub texts_of : List (String Global) → List Text
texts_of words = map string_bytes words

-- what is wrong with words, or the help that they ask for; nothing where they name a subcommand to run
abbrev pub fault_in : List Text → Kinds
fault_in words = fault_of program_app words

-- none of it is a wish for help or for the version
abbrev pub AsksNoHelp : Kinds → Type 0
AsksNoHelp kinds = (IsAmong DisplayHelp kinds → ⊥) × (IsAmong DisplayVersion kinds → ⊥)

-- the subcommand that words name, with what they give for its options
abbrev pub met_in : List Text → Option (Text × List Row)
met_in words = subcommand_of program_app words

-- its name
abbrev pub named_in : List Text → Option Text
named_in words = option_map (λ p. p.0) (met_in words)

-- they name this subcommand, and nothing is wrong with them
abbrev pub AreFor : Text → List Text → Type 0
AreFor name words = (fault_in words ≡ []) × (named_in words ≡ Some name)

-- ## Numbers

-- the number that the text of an option is in decimal, without a sign and leading zeros; the default where there is no text
abbrev pub IsNumberOf : (default : ℕ) → Option Text → ℕ → Type 0
IsNumberOf default None n = n ≡ default
IsNumberOf default (Some t) n = t ≡ decimal n

-- there is a text, and it is no number in decimal: it has a sign, leading zeros or other characters, or is empty
abbrev pub IsNoNumber : Option Text → Type 0
IsNoNumber None = ⊥
IsNoNumber (Some t) = (n : ℕ) → t ≡ decimal n → ⊥

-- the text of an option of the subcommand that was met
abbrev pub text_in : Option (Text × List Row) → (option : Text) → Option Text
text_in met option = option_and_then (λ p. one_of option p.1) met

-- the same, as it stands in the words
abbrev pub raw_in : Option (Text × List Row) → (option : Text) → Option Text
raw_in met option = option_and_then (λ p. first_of option p.1) met

-- the number that the words give for it
abbrev pub IsGiven : Option (Text × List Row) → (option : Text) → (default : ℕ) → ℕ → Type 0
IsGiven met option default n = IsNumberOf default (text_in met option) n

-- what the words give for N1, the callers or the cut is no number
abbrev pub HasNoNumber : Option (Text × List Row) → Type 0
HasNoNumber met =
    IsNoNumber (text_in met (codes "n1")) ⊎ (IsNoNumber (text_in met (codes "callers")) ⊎ IsNoNumber (text_in met (codes "cut")))

-- ## Reasons

-- whether an option without a value is there, by its text
abbrev pub is_set : Option Text → Bool
is_set None = false
is_set (Some t) = bytes_eq t (codes "true")

-- whether a second line with the reason is wanted: standard error is a terminal, or the words ask for it
abbrev pub is_explained : (terminal : Bool) → Option (Text × List Row) → Bool
is_explained terminal met = terminal || is_set (raw_in met (codes "explain"))
