-- How the program is a modem for a client, by what its words give, by what stands in the files that they name (`texts`), and what it
-- says beside its output.
use Rattle.std.specs.Prelude.{◌≡◌, ◌⊎◌, ℕ, ◌++◌, Bool, true, List, [], ◌∷◌, Option, None, Some, codes, is_some}
use Rattle.std.specs.Fmt.{decimal}
use Rattle.clap.specs.Words.{Row, Text, first_value, found_of}
use Rattle.clap.specs.declared.ArgMatches.{ArgMatches}
use Rattle.ctl_run.specs.AnswerTexts.{AnswersStopBy, HasFirstNone, part_text}
use Rattle.ctl_run.specs.Statuses.{stop_line}
use Rattle.ctl_run.specs.Steps.{HasBadStep, StepsStop}
use Rattle.ctl_run.specs.declared.own_answers.AnswerPart.{AnswerPart}
use Rattle.ctl_run.specs.declared.stop.Stop.{Stop}
use Rattle.ctl_sim.specs.declared.serving.SimOptions.{SimOptions}
use Rattle.ctl_sim.specs.Leaving.{EndsFor, SaysBad}
use Rattle.ctl_sim.specs.Serving.{IsServed}
use Rattle.ctl_sim.specs.Watching.{CapturesClient}
use Rattle.ctl_text.specs.LineFaults.{bad_line, reason_line}
use Rattle.ctl_text.specs.Writing.{IsBegun}
use Rattle.ctl_text.specs.declared.expected.Expected.{Expected}
use Rattle.modemctl.specs.Benches.{AreGiven, AreMatched}
use Rattle.modemctl.specs.Captures.{SaysNoCapture}
use Rattle.modemctl.specs.Files.{IsNoText}
use Rattle.modemctl.specs.Words.{raw_in}
use Rattle.modemctl.specs.declared.words.answers.AnswersFault.{AnswersFault}
use Rattle.modemctl.specs.declared.words.files.NoCapture.{NoCapture}
use Rattle.modemctl.specs.declared.words.text_files.TextFault.{TextFault}

-- ## At status 0

-- a client was served so, by a modem with the options of the words, and captured where they name a file for that
pub record ServesClient (texts : Text → Option (List ℕ)) (met : Option (Text × List Row)) (input before after : Option (List ℕ)) : Type 0 where
  pub options : SimOptions
  pub given : AreGiven texts met options
  pub served : IsServed options input before after
  pub captured : CapturesClient (is_some (raw_in met (codes "capture"))) options input before after

-- the same, with the options that the matches of the subcommand have
pub record ServesWith (texts : Text → Option (List ℕ)) (n1 : ℕ) (m : ArgMatches) (input before after : Option (List ℕ)) : Type 0 where
  pub options : SimOptions
  pub matched : AreMatched texts n1 m options
  pub served : IsServed options input before after
  pub captured : CapturesClient (is_some (first_value (found_of m) (codes "capture"))) options input before after

-- ## At status 1

-- One fault ended it, which is said. It is that of a capture only where one is wanted, and all was served.
abbrev pub FailsClient : (wanted : Bool) → SimOptions → (input rest before after told_before told_after : Option (List ℕ)) → Type 0
FailsClient wanted options input rest before after told_before told_after =
    EndsFor ((wanted ≡ true) × IsServed options input before after) options input rest before after told_before told_after

-- a client was left at a fault, by a modem with the options of the words
pub record LeavesClient (texts : Text → Option (List ℕ)) (met : Option (Text × List Row)) (input rest before after told_before told_after : Option (List ℕ)) : Type 0 where
  pub options : SimOptions
  pub given : AreGiven texts met options
  pub fails : FailsClient (is_some (raw_in met (codes "capture"))) options input rest before after told_before told_after

-- the same, with the options that the matches of the subcommand have
pub record LeavesWith (texts : Text → Option (List ℕ)) (n1 : ℕ) (m : ArgMatches) (input rest before after told_before told_after : Option (List ℕ)) : Type 0 where
  pub options : SimOptions
  pub matched : AreMatched texts n1 m options
  pub fails : FailsClient (is_some (first_value (found_of m) (codes "capture"))) options input rest before after told_before told_after

-- there is no capture, for a cause that is said
pub record HasNoCapture (path : Option Text) (told_before told_after : Option (List ℕ)) : Type 0 where
  pub named : Text
  pub path_is : path ≡ Some named
  pub cause : NoCapture
  pub said : SaysNoCapture cause named told_before told_after

-- the files of the words: of the script, of the answers, for the capture
pub record SimFiles : Type 0 where
  pub script : Option Text
  pub answers : Option Text
  pub capture : Option Text

-- no client was served: memory was refused, or the script or the answers give nothing, or there is no capture; that is said
abbrev pub SaysNotBegun : SimFiles → (told_before told_after : Option (List ℕ)) → Type 0
SaysNotBegun files told_before told_after =
    IsBegun told_before told_after (stop_line Stop.NoMemory)
    ⊎ (IsNoText true (codes "script") files.script told_before told_after 1
    ⊎ (IsNoText true (codes "answers") files.answers told_before told_after 1 ⊎ HasNoCapture files.capture told_before told_after))

-- those that the words give, and those that the matches of the subcommand have
abbrev pub files_given : Option (Text × List Row) → SimFiles
files_given met = record { script = raw_in met (codes "script"); answers = raw_in met (codes "answers"); capture = raw_in met (codes "capture") }

abbrev pub files_matched : ArgMatches → SimFiles
files_matched m = record {
  script = first_value (found_of m) (codes "script");
  answers = first_value (found_of m) (codes "answers");
  capture = first_value (found_of m) (codes "capture");
}

-- nothing was read and nothing written, for a cause that is said
pub record IsNotBegun {I O : Type 0} (files : SimFiles) (input rest : I) (old new : O) (told_before told_after : Option (List ℕ)) : Type 0 where
  pub unread : rest ≡ input
  pub nothing : new ≡ old
  pub said : SaysNotBegun files told_before told_after

-- ## At status 2

-- of which option a text is no number
abbrev pub number_line : List ℕ → List ℕ
number_line option = codes "error: --" ++ option ++ codes " takes a number in decimal, without a sign and leading zeros" ++ 10 ∷ []

pub record SaysNoNumber (told_before told_after : Option (List ℕ)) : Type 0 where
  pub option : List ℕ
  pub said : IsBegun told_before told_after (number_line option)

-- why the file of a script gives no steps: it can't be opened, or for a cause to stop
abbrev pub IsOfScript : (text : Option (List ℕ)) → TextFault → Type 0
IsOfScript text (TextFault.Closed kind) = Unit {0}
IsOfScript text (TextFault.Stopped stop) = StepsStop text stop

-- the bad line of a script, where that is the fault
abbrev pub bad_step_of : TextFault → Option (ℕ × Expected)
bad_step_of (TextFault.Stopped (Stop.BadLine place why)) = Some (place, why)
bad_step_of _ = None

-- a line of the script of this path is bad: the first such line is named, with what has to stand there
pub record SaysBadStep (texts : Text → Option (List ℕ)) (script : Option Text) (told_before told_after : Option (List ℕ)) : Type 0 where
  pub named : Text
  pub path_is : script ≡ Some named
  pub place : ℕ
  pub why : Expected
  pub bad : HasBadStep (texts named) place why
  pub said : IsBegun told_before told_after (bad_line (decimal place) ++ reason_line (codes "the script: ") why)

-- why the file of answers gives none: it can't be opened, or for a cause to stop
abbrev pub IsOfAnswers : (text : Option (List ℕ)) → AnswersFault → Type 0
IsOfAnswers text (AnswersFault.Closed kind) = Unit {0}
IsOfAnswers text (AnswersFault.Stopped stop) = AnswersStopBy text stop

-- what has to stand there
abbrev pub answers_line : AnswerPart → List ℕ
answers_line part = codes "the answers: " ++ part_text part ++ 10 ∷ []

-- a line of the answers of this path is bad: the first such line is named, with what has to stand there
pub record SaysBadAnswer (texts : Text → Option (List ℕ)) (answers : Option Text) (told_before told_after : Option (List ℕ)) : Type 0 where
  pub named : Text
  pub path_is : answers ≡ Some named
  pub place : ℕ
  pub part : AnswerPart
  pub bad : HasFirstNone (texts named) place part
  pub said : IsBegun told_before told_after (bad_line (decimal place) ++ answers_line part)

-- a line of the script or of the answers is bad, and that is said
abbrev pub SaysBadFile : (texts : Text → Option (List ℕ)) → SimFiles → (told_before told_after : Option (List ℕ)) → Type 0
SaysBadFile texts files told_before told_after =
    SaysBadStep texts files.script told_before told_after ⊎ SaysBadAnswer texts files.answers told_before told_after

-- an option of the words is bad, which is said
pub record HasBadGiven (texts : Text → Option (List ℕ)) (met : Option (Text × List Row)) (told_before told_after : Option (List ℕ)) : Type 0 where
  pub options : SimOptions
  pub given : AreGiven texts met options
  pub says : SaysBad options told_before told_after

-- the same, of the matches of the subcommand
pub record HasBadMatched (texts : Text → Option (List ℕ)) (n1 : ℕ) (m : ArgMatches) (told_before told_after : Option (List ℕ)) : Type 0 where
  pub options : SimOptions
  pub matched : AreMatched texts n1 m options
  pub says : SaysBad options told_before told_after

-- a number isn't one, a line of the script or of the answers is bad, or an option, and that is said
abbrev pub RefusesClient : (texts : Text → Option (List ℕ)) → (met : Option (Text × List Row)) → (told_before told_after : Option (List ℕ)) → Type 0
RefusesClient texts met told_before told_after =
    SaysNoNumber told_before told_after
    ⊎ (SaysBadFile texts (files_given met) told_before told_after ⊎ HasBadGiven texts met told_before told_after)

-- a line of the script or of the answers is bad, or an option, as the matches of the subcommand have them, and that is said
abbrev pub RefusesWith : (texts : Text → Option (List ℕ)) → (n1 : ℕ) → ArgMatches → (told_before told_after : Option (List ℕ)) → Type 0
RefusesWith texts n1 m told_before told_after =
    SaysBadFile texts (files_matched m) told_before told_after ⊎ HasBadMatched texts n1 m told_before told_after
