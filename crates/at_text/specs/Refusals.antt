-- Which rules a dialect refuses.
use Rattle.std.specs.Prelude.{◌≡◌, ◌<◌, ◌≤◌, ◌+◌, ℕ, nat_le, Bool, true, false, ◌&&◌, List, [], length, None, Some, is_some}
use Rattle.std.specs.List.{list_any, list_all, AllByRecursion}
use Rattle.at_text.specs.declared.dialect_error.DialectError.{DialectError}
use Rattle.at_text.specs.declared.dialect_error.DialectError.TheVariants.{TooManyRules, NoText, TextTooLong, LineEnd, BadName, Command, Ambiguous, NoMemory}
use Rattle.at_text.specs.declared.rules.Pattern.{Pattern}
use Rattle.at_text.specs.Commands.{has_at}
use Rattle.at_text.specs.Lines.{is_line_end}
use Rattle.at_text.specs.Dialects.{Dialect}
use Rattle.at_text.specs.Rules.{Rules, Rule, FinalRule, UrcRule, pattern, takes, with_rule, dialect_of, final_by, kind_by, name_at}

-- how many rules there are
abbrev pub count : Rules → ℕ
count rules = length rules.finals + length rules.urcs

abbrev pub text_of : Rule → List ℕ
text_of (FinalRule form text) = text
text_of (UrcRule form text name) = text

abbrev pub pattern_of : Rule → Pattern
pattern_of (FinalRule form text) = pattern form text
pattern_of (UrcRule form text name) = pattern form text

-- the octets 21 to 7E hex
abbrev pub is_visible : ℕ → Bool
is_visible c = nat_le 33 c && nat_le c 126

-- a name is 1 to 64 visible octets
abbrev pub is_name : List ℕ → Bool
is_name name = (nat_le 1 (length name) && nat_le (length name) 64) && list_all is_visible name

-- a rule has no name, or one that is a name
abbrev pub is_well_named : Rule → Bool
is_well_named (FinalRule form text) = true
is_well_named (UrcRule form text name) = is_name name

-- some text that begins as a command line does is a line of the rule
pub record TakesCommand (p : Pattern) : Type 0 where
  pub line : List ℕ
  pub begins : has_at line ≡ true
  pub taken : takes p line ≡ true

-- some line is of both rules
pub record HaveLineInCommon (p q : Pattern) : Type 0 where
  pub line : List ℕ
  pub one : takes p line ≡ true
  pub other : takes q line ≡ true

-- some line ends an answer and is unsolicited
pub record IsAmbiguous (d : Dialect) : Type 0 where
  pub line : List ℕ
  pub ends : d.is_final line ≡ true
  pub unasked : is_some (d.kind_of line) ≡ true

-- a reason to refuse one more rule
abbrev pub Refuses : Rules → Rule → DialectError → Type 0
Refuses rules rule TooManyRules = 64 ≤ count rules
Refuses rules rule NoText = text_of rule ≡ []
Refuses rules rule TextTooLong = 64 < length (text_of rule)
Refuses rules rule LineEnd = list_any is_line_end (text_of rule) ≡ true
Refuses rules rule BadName = is_well_named rule ≡ false
Refuses rules rule Command = TakesCommand (pattern_of rule)
Refuses rules rule Ambiguous = IsAmbiguous (dialect_of (with_rule rules rule))
Refuses rules rule NoMemory = Unit {0}

-- the number of a refusal
abbrev pub dialect_error_number : DialectError → ℕ
dialect_error_number TooManyRules = 1
dialect_error_number NoText = 2
dialect_error_number TextTooLong = 3
dialect_error_number LineEnd = 4
dialect_error_number BadName = 5
dialect_error_number Command = 6
dialect_error_number Ambiguous = 7
dialect_error_number NoMemory = 8

-- no reason with a number below this one holds
abbrev pub HasNoReasonBelow : ℕ → Rules → Rule → Type 0
HasNoReasonBelow n rules rule = (why : DialectError) → dialect_error_number why < n → ¬ Refuses rules rule why

-- the first reason that holds
pub record IsRefused (rules : Rules) (rule : Rule) (why : DialectError) : Type 0 where
  pub holds : Refuses rules rule why
  pub first : HasNoReasonBelow (dialect_error_number why) rules rule

-- a text of at most 64 octets
abbrev pub is_short : List ℕ → Bool
is_short text = nat_le (length text) 64

-- What holds of every dialect: its rules are few and short, and each unsolicited rule has a name, by which its kind is
-- found. No line both ends an answer and is unsolicited, and no line that begins as a command line does is either.
pub record IsSound (rules : Rules) : Type 0 where
  pub few : count rules ≤ 64
  pub short_finals : list_all (λ p. is_short p.text) rules.finals ≡ true
  pub short_urcs : list_all (λ u. is_short u.pattern.text) rules.urcs ≡ true
  pub names : list_all (λ u. is_name u.name) rules.urcs ≡ true
  pub named : AllByRecursion (λ u. name_at rules u.kind ≡ Some u.name) rules.urcs
  pub clear : ¬ IsAmbiguous (dialect_of rules)
  pub no_final : (line : List ℕ) → has_at line ≡ true → final_by rules line ≡ None
  pub no_urc : (line : List ℕ) → has_at line ≡ true → kind_by rules line ≡ None
