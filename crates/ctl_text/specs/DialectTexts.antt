-- The text of a dialect: a rule a line.
use Rattle.std.specs.Prelude.{◌≡◌, ◌≢◌, ◌≤◌, ◌⊎◌, ℕ, ◌+◌, ◌==◌, ◌||◌, Bool, true, false, List, [], ◌∷◌, ◌++◌, length, Option, Some, None, codes}
use Rattle.std.specs.Str.Iter.{LacksByte}
use Rattle.at_text.specs.declared.dialect_error.DialectError.{DialectError}
use Rattle.at_text.specs.declared.rules.Form.{Form}
use Rattle.at_text.specs.declared.rules.Form.TheVariants.{Line, Prefix, Quoted, Report, OpenReport}
use Rattle.at_text.specs.Octets.{begins, skip_blanks}
use Rattle.at_text.specs.Refusals.{HasNoReasonBelow, HaveLineInCommon, IsRefused, pattern_of, text_of}
use Rattle.at_text.specs.StandardRules.{standard_pattern}
use Rattle.at_text.specs.declared.clashes.StandardLine.{StandardLine}
use Rattle.at_text.specs.declared.clashes.StandardLine.TheVariants as standard
use Rattle.at_text.specs.Rules.{Rules, Rule, FinalRule, UrcRule, no_rules, with_rule}
use Rattle.ctl_text.specs.declared.dialects.DialectRefusal.{DialectRefusal}
use Rattle.ctl_text.specs.declared.dialects.DialectRefusal.TheVariants as refusal
use Rattle.ctl_text.specs.declared.dialects.RuleText.{RuleText}
use Rattle.ctl_text.specs.declared.dialects.RuleText.TheVariants as said
use Rattle.ctl_text.specs.declared.dialects.RulePart.{RulePart}
use Rattle.ctl_text.specs.declared.dialects.RulePart.TheVariants as part
use Rattle.ctl_text.specs.declared.clashes.Clash.{Clash}
use Rattle.ctl_text.specs.declared.clashes.Clash.TheVariants as clash

-- ## A line

-- the word for a form
abbrev pub form_text : Form → List ℕ
form_text Line = codes "line"
form_text Prefix = codes "prefix"
form_text Quoted = codes "quoted"
form_text Report = codes "report"
form_text OpenReport = codes "open-report"

-- the octet `#`
abbrev pub is_hash : ℕ → Bool
is_hash c = c == 35

-- a line is a comment, or has nothing but blanks
abbrev pub is_passed_over : List ℕ → Bool
is_passed_over line = begins is_hash line || length (skip_blanks line) == 0

-- a line says this rule: what the rule is for, its form, its text and, of unsolicited lines, the name of their kind, each behind one
-- blank; of these only the text may have blanks
abbrev pub SaysRule : List ℕ → Rule → Type 0
SaysRule line (FinalRule form text) = line ≡ codes "final " ++ form_text form ++ 32 ∷ text
SaysRule line (UrcRule form text name) =
    (line ≡ codes "unsolicited " ++ form_text form ++ 32 ∷ (text ++ 32 ∷ name)) × LacksByte 32 name

-- a line says no rule
abbrev pub SaysNoRule : List ℕ → Type 0
SaysNoRule line = (rule : Rule) → SaysRule line rule → ⊥

-- the rule of these parts of a line
abbrev pub rule_in : RuleText → Rule
rule_in (said.Final form text) = FinalRule form text.now
rule_in (said.Unsolicited form text name) = UrcRule form text.now name.now

-- ## Lines

-- Lines make one dialect of another, line by line. A line that is passed over leaves it as it is. Any other says a rule, which the
-- dialect has no reason to refuse; the rule stands behind those that it has.
pub data Makes : (old : Rules) → List (List ℕ) → (new : Rules) → Type 0 where
  ends : (rules : Rules) → Makes rules [] rules
  passes : (old new : Rules) (line : List ℕ) (lines : List (List ℕ))
      → is_passed_over line ≡ true → Makes old lines new → Makes old (line ∷ lines) new
  adds : (old new : Rules) (line : List ℕ) (lines : List (List ℕ)) (rule : Rule)
      → SaysRule line rule → HasNoReasonBelow 8 old rule → Makes (with_rule old rule) lines new
      → Makes old (line ∷ lines) new

-- the lines are those of a dialect with these rules of its own, in order
abbrev pub AreLinesOf : List (List ℕ) → Rules → Type 0
AreLinesOf lines rules = Makes no_rules lines rules

-- ## What is wrong with a line

-- the line begins with neither word
pub record BeginsWithNoWord (line : List ℕ) : Type 0 where
  pub no_final : (rest : List ℕ) → line ≢ codes "final " ++ rest
  pub no_unsolicited : (rest : List ℕ) → line ≢ codes "unsolicited " ++ rest

-- behind the word stands no form with a blank behind it
pub record HasNoForm (line : List ℕ) : Type 0 where
  pub word : List ℕ
  pub is_word : (word ≡ codes "final ") ⊎ (word ≡ codes "unsolicited ")
  pub rest : List ℕ
  pub split : line ≡ word ++ rest
  pub none : (form : Form) (behind : List ℕ) → rest ≢ form_text form ++ 32 ∷ behind

-- behind the form of unsolicited lines stands no blank, and so no name
pub record HasNoName (line : List ℕ) : Type 0 where
  pub form : Form
  pub rest : List ℕ
  pub split : line ≡ codes "unsolicited " ++ form_text form ++ 32 ∷ rest
  pub none : LacksByte 32 rest

-- this part is the first that isn't as it must be
abbrev pub LacksPart : RulePart → List ℕ → Type 0
LacksPart part.Word line = BeginsWithNoWord line
LacksPart part.Form line = HasNoForm line
LacksPart part.Name line = HasNoName line

-- the line says no rule, and this part is the first that is wrong
pub record SaysNone (part : RulePart) (line : List ℕ) : Type 0 where
  pub says : SaysNoRule line
  pub lacks : LacksPart part line

-- ## What a rule has a line in common with

-- one of the rules says which lines are final codes, the other which are unsolicited
abbrev pub AreOfTwoSorts : Rule → Rule → Type 0
AreOfTwoSorts (FinalRule form text) (UrcRule other more name) = Unit {0}
AreOfTwoSorts (UrcRule form text name) (FinalRule other more) = Unit {0}
AreOfTwoSorts (FinalRule form text) (FinalRule other more) = ⊥
AreOfTwoSorts (UrcRule form text name) (UrcRule other more others) = ⊥

-- these lines of the standards are of the other sort
abbrev pub other_lines : Rule → List StandardLine
other_lines (FinalRule form text) =
    standard.Ring ∷ standard.Cring ∷ standard.Creg ∷ standard.Cgreg ∷ standard.Cgev ∷ standard.Ciev ∷ []
other_lines (UrcRule form text name) = standard.Ok ∷ standard.Error ∷ standard.CmeError ∷ []

-- the line says a rule of the other sort, and some line is of both
pub record ClashesWith (rule : Rule) (line : List ℕ) : Type 0 where
  pub other : Rule
  pub says : SaysRule line other
  pub sorts : AreOfTwoSorts rule other
  pub common : HaveLineInCommon (pattern_of rule) (pattern_of other)

-- the line says no such rule, of those that a dialect takes: their texts have at most 64 octets
abbrev pub IsApart : Rule → List ℕ → Type 0
IsApart rule line =
    (other : Rule) → SaysRule line other → AreOfTwoSorts rule other → length (text_of other) ≤ 64
    → ¬ HaveLineInCommon (pattern_of rule) (pattern_of other)

-- none of the lines does
abbrev pub AreApart : Rule → List (List ℕ) → Type 0
AreApart rule [] = Unit {0}
AreApart rule (line ∷ lines) = IsApart rule line × AreApart rule lines

-- the line of this number, counted from 1, is the first that does
pub record ClashesFirst (rule : Rule) (lines : List (List ℕ)) (number : ℕ) : Type 0 where
  pub before : List (List ℕ)
  pub line : List ℕ
  pub after : List (List ℕ)
  pub split : lines ≡ before ++ line ∷ after
  pub counted : number ≡ length before + 1
  pub clashes : ClashesWith rule line
  pub apart : length (text_of rule) ≤ 64 → AreApart rule before

-- no line of the standards is of the rule
abbrev pub AreApartFrom : Rule → List StandardLine → Type 0
AreApartFrom rule [] = Unit {0}
AreApartFrom rule (s ∷ rest) = (¬ HaveLineInCommon (pattern_of rule) (standard_pattern s)) × AreApartFrom rule rest

-- of the lines of the standards of the other sort this is the first that is of the rule
pub record IsOfStandard (rule : Rule) (lines : List StandardLine) (s : StandardLine) : Type 0 where
  pub before : List StandardLine
  pub after : List StandardLine
  pub split : lines ≡ before ++ s ∷ after
  pub common : HaveLineInCommon (pattern_of rule) (standard_pattern s)
  pub apart : length (text_of rule) ≤ 64 → AreApartFrom rule before

-- what a rule behind these lines has a line in common with: the rule of the first such line, else a line of the standards, else nothing
abbrev pub FindsClash : Rule → List (List ℕ) → Option Clash → Type 0
FindsClash rule lines (Some (clash.Line number)) = ClashesFirst rule lines number
FindsClash rule lines (Some (clash.Standard s)) =
    (length (text_of rule) ≤ 64 → AreApart rule lines) × IsOfStandard rule (other_lines rule) s
FindsClash rule lines None =
    length (text_of rule) ≤ 64 → AreApart rule lines × AreApartFrom rule (other_lines rule)

-- ## The first bad line

-- the line at this place, counted from 1, is bad behind the lines before it, and for the dialect that they make
pub record IsFirstBadRule (IsBad : List (List ℕ) → Rules → List ℕ → Type 0) (lines : List (List ℕ)) (place : ℕ) : Type 0 where
  pub before : List (List ℕ)
  pub line : List ℕ
  pub after : List (List ℕ)
  pub split : lines ≡ before ++ line ∷ after
  pub counted : place ≡ length before + 1
  pub rules : Rules
  pub made : AreLinesOf before rules
  pub bad : IsBad before rules line

-- it isn't passed over and says no rule, and this part is the first that is wrong
pub record HasNoRule (part : RulePart) (before : List (List ℕ)) (rules : Rules) (line : List ℕ) : Type 0 where
  pub is_read : is_passed_over line ≡ false
  pub none : SaysNone part line

-- it says a rule that the dialect refuses, and this is the first reason
pub record HasRefusedRule (why : DialectError) (before : List (List ℕ)) (rules : Rules) (line : List ℕ) : Type 0 where
  pub rule : Rule
  pub says : SaysRule line rule
  pub refused : IsRefused rules rule why

-- it says a rule with which some line would both end an answer and be unsolicited, and this is what the rule has a line in common with
pub record HasClash (found : Option Clash) (before : List (List ℕ)) (rules : Rules) (line : List ℕ) : Type 0 where
  pub rule : Rule
  pub says : SaysRule line rule
  pub refused : IsRefused rules rule DialectError.Ambiguous
  pub finds : FindsClash rule before found

-- why the lines are those of no dialect, or that memory was refused
abbrev pub IsDialectRefusal : List (List ℕ) → DialectRefusal → Type 0
IsDialectRefusal lines (refusal.NoRule place part) = IsFirstBadRule (HasNoRule part) lines place
IsDialectRefusal lines (refusal.Refused place why) =
    IsFirstBadRule (HasRefusedRule why) lines place × (why ≢ DialectError.NoMemory) × (why ≢ DialectError.Ambiguous)
IsDialectRefusal lines (refusal.Clashes place found) = IsFirstBadRule (HasClash found) lines place
IsDialectRefusal lines refusal.NoMemory = Unit {0}

-- the clash of a rule behind these lines is told at this place
pub record ClashIsNamed (rule : Rule) (lines : List (List ℕ)) (place : ℕ) (r : DialectRefusal) : Type 0 where
  pub found : Option Clash
  pub named : r ≡ refusal.Clashes place found
  pub finds : FindsClash rule lines found

-- how a rule behind these lines, so many, is refused for this reason
abbrev pub RefusesAt : Rule → List (List ℕ) → ℕ → DialectError → DialectRefusal → Type 0
RefusesAt rule lines count DialectError.NoMemory r = r ≡ refusal.NoMemory
RefusesAt rule lines count DialectError.Ambiguous r = ClashIsNamed rule lines (count + 1) r
RefusesAt rule lines count why r = r ≡ refusal.Refused (count + 1) why
