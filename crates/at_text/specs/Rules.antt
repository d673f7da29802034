-- Rules of lines, as data, and the dialect that they make beside the standard's.
use Rattle.std.specs.Prelude.{◌≡◌, refl, ℕ, nat_eq, Bool, true, ◌&&◌, ◌||◌, ◌==◌, List, [], ◌∷◌, ◌++◌, length, drop, Option, Some, None, is_some, not, option_map}
use Rattle.std.specs.List.{starts_with, list_any, find, position, position_or_len, slice_get}
use Rattle.std.specs.Option.{option_or, option_map_or}
use Rattle.std.specs.Str.{bytes_eq}
use Rattle.at_text.specs.declared.finals.Final.{Final}
use Rattle.at_text.specs.declared.finals.Final.TheVariants.{Named}
use Rattle.at_text.specs.declared.unsolicited.UrcKind.{UrcKind}
use Rattle.at_text.specs.declared.unsolicited.UrcKind.TheVariants.{Own}
use Rattle.at_text.specs.declared.rules.Form.{Form}
use Rattle.at_text.specs.declared.rules.Form.TheVariants.{Line, Prefix, Quoted, Report, OpenReport}
use Rattle.at_text.specs.declared.rules.Pattern.{Pattern}
use Rattle.at_text.specs.declared.rules.Urc.{Urc}
use Rattle.at_text.specs.Octets.{is_digit, is_quote, skip_blanks, begins, after_comma}
use Rattle.at_text.specs.Finals.{final_of, is_final}
use Rattle.at_text.specs.Unsolicited.{unsolicited_of, is_without_second}
use Rattle.at_text.specs.Dialects.{Dialect, is_called, standard}

-- there is no comma, or after the first one and any blanks no digit stands
abbrev pub is_without_number : List ℕ → Bool
is_without_number rest = option_map_or (λ more. not (begins is_digit (skip_blanks more))) (after_comma rest) true

-- how a line goes on behind the text of a rule
abbrev pub goes_on : Form → List ℕ → Bool
goes_on Line rest = length rest == 0
goes_on Prefix rest = true
goes_on Quoted rest = begins is_quote (skip_blanks rest)
goes_on Report rest = begins is_digit (skip_blanks rest) && is_without_second rest
goes_on OpenReport rest = begins is_digit (skip_blanks rest) && is_without_number rest

-- a line has a rule's text at its front, and goes on as its form says
abbrev pub takes : Pattern → List ℕ → Bool
takes p line = starts_with nat_eq line p.text && goes_on p.form (drop (length p.text) line)

-- a rule of this form and text
abbrev pub pattern : Form → List ℕ → Pattern
pattern form text = record { form = form; text = text }

-- a rule of unsolicited lines, with the name and the number of their kind
abbrev pub urc : ℕ → List ℕ → Pattern → Urc
urc kind name p = record { kind = kind; name = name; pattern = p }

-- the rules of one's own: which lines end an answer, and which are unsolicited
pub record Rules : Type 0 where
  pub finals : List Pattern
  pub urcs : List Urc

-- no rules of a dialect's own
abbrev pub no_rules : Rules
no_rules = record { finals = []; urcs = [] }

-- what a line says as a final code: by the standard, else the place of the first rule that takes it
abbrev pub final_by : Rules → List ℕ → Option Final
final_by rules line = option_or (final_of line) (option_map Named (position (λ p. takes p line) rules.finals))

-- the kind of a line that no command asked for: by the standard, else by the first rule that takes it
abbrev pub kind_by : Rules → List ℕ → Option UrcKind
kind_by rules line =
    option_or (unsolicited_of line) (option_map (λ u. Own u.kind) (find (λ u. takes u.pattern line) rules.urcs))

-- an own kind is a kind other than Other
own_called : (rule : Option Urc) → is_called (option_map (λ (u : Urc). Own u.kind) rule) ≡ true
own_called None = refl
own_called (Some u) = refl

either_called : (a b : Option UrcKind) → is_called a ≡ true → is_called b ≡ true → is_called (option_or a b) ≡ true
either_called None b h k = k
either_called (Some kind) b h k = h

-- no line is of the kind Other
pub kind_by_called : (rules : Rules) (line : List ℕ) → is_called (kind_by rules line) ≡ true
kind_by_called rules line =
    either_called
    (unsolicited_of line)
    (option_map (λ (u : Urc). Own u.kind) (find (λ u. takes u.pattern line) rules.urcs))
    (standard.never_other line)
    (own_called (find (λ u. takes u.pattern line) rules.urcs))

-- the dialect of the standard and these rules
abbrev pub dialect_of : Rules → Dialect
dialect_of rules = record {
  is_final = λ line. is_final line || list_any (λ p. takes p line) rules.finals;
  kind_of = kind_by rules;
  never_other = kind_by_called rules;
}

-- the kind of a name: the place of the first unsolicited rule that has it, and of the next rule where none has
abbrev pub kind_named : Rules → List ℕ → ℕ
kind_named rules name = position_or_len (λ u. bytes_eq u.name name) rules.urcs

-- the name of the rule of unsolicited lines at a place
abbrev pub name_at : Rules → ℕ → Option (List ℕ)
name_at rules place = option_map (λ u. u.name) (slice_get rules.urcs place)

-- the name of a kind of one's own
abbrev pub name_of : Rules → UrcKind → Option (List ℕ)
name_of rules (Own place) = name_at rules place
name_of rules _ = None

-- the kind of a name that a rule has
abbrev pub kind_with_name : Rules → List ℕ → Option UrcKind
kind_with_name rules name = option_map Own (position (λ u. bytes_eq u.name name) rules.urcs)

-- the name of the first rule of unsolicited lines that takes a line
abbrev pub name_by : Rules → List ℕ → Option (List ℕ)
name_by rules line = option_map (λ u. u.name) (find (λ u. takes u.pattern line) rules.urcs)

-- a rule of one's own: its lines end an answer, or are unsolicited and of the kind of this name
pub data Rule : Type 0 where
  FinalRule : (form : Form) (text : List ℕ) → Rule
  UrcRule : (form : Form) (text name : List ℕ) → Rule

-- the rules with one more, behind those of its sort
abbrev pub with_rule : Rules → Rule → Rules
with_rule rules (FinalRule form text) = record rules { finals = rules.finals ++ pattern form text ∷ [] }
with_rule rules (UrcRule form text name) =
    record rules { urcs = rules.urcs ++ urc (kind_named rules name) name (pattern form text) ∷ [] }
