-- The dialect that the words give, and what the program prints at `replay` by it.
use Rattle.std.specs.Prelude.{◌≡◌, ℕ, Bool, true, List, Option, None, Some, IfSome}
use Rattle.clap.specs.Words.{Text}
use Rattle.at_text.specs.Rules.{Rules, no_rules}
use Rattle.ctl_text.specs.DialectNames.{dialect_with_name}
use Rattle.ctl_text.specs.DialectTexts.{AreLinesOf}
use Rattle.ctl_text.specs.Input.{input_lines}
use Rattle.ctl_run.specs.Printed.{IsPrinted, IsReplayed, IsReplayedBy}

-- the lines of what was read are these rules; that is all that the file has, where this is known
pub record GivesRules (file : Option (List ℕ)) (rules : Rules) : Type 0 where
  pub text : List ℕ
  pub whole : IfSome file (λ all. text ≡ all)
  pub lines : AreLinesOf (input_lines text) rules

-- the rules are those that come ready; else those of the file
abbrev pub IsReadyOrRead : (ready : Option Rules) (file : Option (List ℕ)) → Rules → Type 0
IsReadyOrRead (Some ready) file rules = rules ≡ ready
IsReadyOrRead None file rules = GivesRules file rules

-- the rules are those of the dialect of this name, or else of the file of this name; none of one's own where no name is given
abbrev pub IsGivenDialect : (texts : Text → Option (List ℕ)) (name : Option Text) → Rules → Type 0
IsGivenDialect texts None rules = rules ≡ no_rules
IsGivenDialect texts (Some name) rules = IsReadyOrRead (dialect_with_name name) (texts name) rules

-- no dialect comes ready under the name that is given, and it is known that the file of this name can't be opened
abbrev pub IsShut : (shut : Text → Bool) (name : Option Text) → Type 0
IsShut shut None = ⊥
IsShut shut (Some name) = (dialect_with_name name ≡ None) × (shut name ≡ true)

-- these acts were printed, at a modem with the dialect of this name, or else of the file of this name
pub record PrintsActsBy (texts : Text → Option (List ℕ)) (name : Text) (n1 : ℕ) (input before after : Option (List ℕ)) : Type 0 where
  pub rules : Rules
  pub named : IsReadyOrRead (dialect_with_name name) (texts name) rules
  pub printed : IsPrinted (IsReplayedBy rules n1) input before after

-- and at a standard modem where no dialect is given
abbrev pub PrintsActs : (texts : Text → Option (List ℕ)) (dialect : Option Text) (n1 : ℕ) (input before after : Option (List ℕ)) → Type 0
PrintsActs texts None n1 input before after = IsPrinted (IsReplayed n1) input before after
PrintsActs texts (Some name) n1 input before after = PrintsActsBy texts name n1 input before after
