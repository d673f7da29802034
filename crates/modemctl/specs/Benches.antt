-- What the program prints at its subcommands, by the numbers that its words give, and by what stands in the files that they name (`texts`).
use Rattle.std.specs.Prelude.{◌≡◌, ℕ, Bool, true, false, List, [], Option, None, Some, codes}
use Rattle.clap.specs.Words.{Row, Text, first_value, found_of, one_text}
use Rattle.clap.specs.declared.ArgMatches.{ArgMatches}
use Rattle.modem_sim.specs.declared.own_answers.OwnAnswer.{OwnAnswer}
use Rattle.modem_sim.specs.declared.script.Script.{Script}
use Rattle.modem_sim.specs.declared.script.Step.{Step}
use Rattle.ctl_run.specs.AnswerTexts.{GivesAnswers}
use Rattle.ctl_run.specs.Steps.{GivesSteps}
use Rattle.ctl_run.specs.Printed.{IsBenched, IsFramed, IsPrinted}
use Rattle.ctl_sim.specs.declared.serving.SimOptions.{SimOptions}
use Rattle.modemctl.specs.Dialects.{PrintsActs}
use Rattle.modemctl.specs.Words.{IsGiven, raw_in, text_in}

-- these frames were printed, with the N1 of the words
pub record PrintsFrames (met : Option (Text × List Row)) (input before after : Option (List ℕ)) : Type 0 where
  pub n1 : ℕ
  pub given : IsGiven met (codes "n1") 31 n1
  pub printed : IsPrinted (IsFramed n1) input before after

-- these acts were printed, with the N1 of the words, at a modem with the codes of their dialect
pub record PrintsReplay (texts : Text → Option (List ℕ)) (met : Option (Text × List Row)) (input before after : Option (List ℕ)) : Type 0 where
  pub n1 : ℕ
  pub given : IsGiven met (codes "n1") 31 n1
  pub printed : PrintsActs texts (raw_in met (codes "dialect")) n1 input before after

-- no command is repeated, and nothing is done that no command asks for
abbrev pub plain_script : Script
plain_script = record { echo = false; steps = [] }

-- this was printed of a bench with a simulated modem of that script, with the callers and the cut of the words
pub record PrintsBench (met : Option (Text × List Row)) (input before after : Option (List ℕ)) : Type 0 where
  pub callers : ℕ
  pub callers_given : IsGiven met (codes "callers") 2 callers
  pub cut : ℕ
  pub cut_given : IsGiven met (codes "cut") 64 cut
  pub printed : IsPrinted (IsBenched callers cut plain_script) input before after

-- an option without a value is there or not
abbrev pub IsFlag : Option Text → Bool → Type 0
IsFlag None given = given ≡ false
IsFlag (Some t) given = (t ≡ codes "true" → given ≡ true) × (t ≡ codes "false" → given ≡ false)

-- Without a script nothing is done that no command asks for. With one, these are the steps that the lines of its file say.
abbrev pub AreScripted : (texts : Text → Option (List ℕ)) (path : Option Text) → List Step → Type 0
AreScripted texts None steps = steps ≡ []
AreScripted texts (Some path) steps = GivesSteps (texts path) steps

-- Without a file of answers there are none. With one, they are those that its lines say.
abbrev pub AreOwn : (texts : Text → Option (List ℕ)) (path : Option Text) → List OwnAnswer → Type 0
AreOwn texts None answers = answers ≡ []
AreOwn texts (Some path) answers = GivesAnswers (texts path) answers

-- the N1, the PIN and the echo that the words give, and the steps and answers that their files say
pub record AreGiven (texts : Text → Option (List ℕ)) (met : Option (Text × List Row)) (options : SimOptions) : Type 0 where
  pub n1_given : IsGiven met (codes "n1") 31 options.n1
  pub pin_given : options.pin ≡ raw_in met (codes "pin")
  pub echo_given : IsFlag (text_in met (codes "echo")) options.echo
  pub steps_given : AreScripted texts (raw_in met (codes "script")) options.steps
  pub answers_given : AreOwn texts (raw_in met (codes "answers")) options.answers

-- the same options, as the matches of the subcommand have them
pub record AreMatched (texts : Text → Option (List ℕ)) (n1 : ℕ) (m : ArgMatches) (options : SimOptions) : Type 0 where
  pub n1_is : options.n1 ≡ n1
  pub pin_is : options.pin ≡ first_value (found_of m) (codes "pin")
  pub echo_is : IsFlag (one_text (found_of m) (codes "echo")) options.echo
  pub steps_are : AreScripted texts (first_value (found_of m) (codes "script")) options.steps
  pub answers_are : AreOwn texts (first_value (found_of m) (codes "answers")) options.answers
