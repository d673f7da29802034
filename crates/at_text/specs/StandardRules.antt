-- The standard's final codes and unsolicited lines as rules (V.250, 5.7.1, 6.3; 27.007, 6.11, 7.2, 8.10, 9.2, 10.1.19, 10.1.20).
use Rattle.std.specs.Prelude.{◌≡◌, ℕ, List, [], ◌∷◌, drop, option_map, codes}
use Rattle.std.specs.List.{find}
use Rattle.at_text.specs.declared.finals.Final.{Final}
use Rattle.at_text.specs.declared.finals.Final.TheVariants.{Good, Error, Cme}
use Rattle.at_text.specs.declared.unsolicited.UrcKind.{UrcKind}
use Rattle.at_text.specs.declared.unsolicited.UrcKind.TheVariants.{Ring, Cring, Creg, Cgreg, Cgev, Ciev}
use Rattle.at_text.specs.declared.clashes.StandardLine.{StandardLine}
use Rattle.at_text.specs.declared.clashes.StandardLine.TheVariants as line
use Rattle.at_text.specs.declared.rules.Form.{Form}
use Rattle.at_text.specs.declared.rules.Form.TheVariants.{Line, Prefix, Report}
use Rattle.at_text.specs.declared.rules.Pattern.{Pattern}
use Rattle.at_text.specs.Octets.{number_in}
use Rattle.at_text.specs.Finals.{final_of}
use Rattle.at_text.specs.Unsolicited.{unsolicited_of}
use Rattle.at_text.specs.Dialects.{standard}
use Rattle.at_text.specs.Rules.{pattern, takes, no_rules, dialect_of}

-- the form of the rule that takes a line of the standards
abbrev pub standard_form : StandardLine → Form
standard_form line.Ok = Line
standard_form line.Error = Line
standard_form line.CmeError = Prefix
standard_form line.Ring = Line
standard_form line.Cring = Prefix
standard_form line.Creg = Report
standard_form line.Cgreg = Report
standard_form line.Cgev = Prefix
standard_form line.Ciev = Prefix

-- and its text
abbrev pub standard_text : StandardLine → List ℕ
standard_text line.Ok = codes "OK"
standard_text line.Error = codes "ERROR"
standard_text line.CmeError = codes "+CME ERROR:"
standard_text line.Ring = codes "RING"
standard_text line.Cring = codes "+CRING:"
standard_text line.Creg = codes "+CREG:"
standard_text line.Cgreg = codes "+CGREG:"
standard_text line.Cgev = codes "+CGEV:"
standard_text line.Ciev = codes "+CIEV:"

abbrev pub standard_pattern : StandardLine → Pattern
standard_pattern s = pattern (standard_form s) (standard_text s)

-- the final codes, each with what its line says
abbrev pub standard_finals : List (Pattern × (List ℕ → Final))
standard_finals =
    (standard_pattern line.Ok, λ line. Good)
    ∷ (standard_pattern line.Error, λ line. Error)
    ∷ (standard_pattern line.CmeError, λ line. Cme (number_in (drop 11 line)))
    ∷ []

-- the unsolicited lines, each with its kind
abbrev pub standard_urcs : List (Pattern × UrcKind)
standard_urcs =
    (standard_pattern line.Ring, Ring)
    ∷ (standard_pattern line.Cring, Cring)
    ∷ (standard_pattern line.Creg, Creg)
    ∷ (standard_pattern line.Cgreg, Cgreg)
    ∷ (standard_pattern line.Cgev, Cgev)
    ∷ (standard_pattern line.Ciev, Ciev)
    ∷ []

-- the standard's lists are its rules, of which the first that takes a line counts, and a dialect with no rules of
-- its own is the standard
pub record AreStandard : Type 0 where
  pub finals :
      (line : List ℕ) → final_of line ≡ option_map (λ r. r.1 line) (find (λ r. takes r.0 line) standard_finals)
  pub kinds :
      (line : List ℕ) → unsolicited_of line ≡ option_map (λ r. r.1) (find (λ r. takes r.0 line) standard_urcs)
  pub none : dialect_of no_rules ≡ standard
