-- How a refusal is decided: whether two rules have a line in common shows on three lines made of the longer text.
use Rattle.std.specs.Prelude.{ℕ, nat_le, nat_lt, ◌==◌, Bool, not, ◌&&◌, ◌||◌, List, [], ◌++◌, length, Option, Some, None, if◌then◌else◌, codes}
use Rattle.std.specs.List.{list_any}
use Rattle.std.specs.Option.{option_or}
use Rattle.at_text.specs.declared.dialect_error.DialectError.{DialectError}
use Rattle.at_text.specs.declared.dialect_error.DialectError.TheVariants.{TooManyRules, NoText, TextTooLong, LineEnd, BadName, Command, Ambiguous}
use Rattle.at_text.specs.declared.rules.Form.TheVariants.{Prefix}
use Rattle.at_text.specs.declared.rules.Pattern.{Pattern}
use Rattle.at_text.specs.declared.rules.PatternRef.{PatternRef}
use Rattle.at_text.specs.Lines.{is_line_end}
use Rattle.at_text.specs.Rules.{Rules, Rule, FinalRule, UrcRule, pattern, takes}
use Rattle.at_text.specs.StandardRules.{standard_finals, standard_urcs}
use Rattle.at_text.specs.Refusals.{count, text_of, pattern_of, is_well_named, is_short}

-- a rule as it is lent
abbrev pub lent : PatternRef → Pattern
lent p = pattern p.form p.text.now

-- the line is of both rules
abbrev pub both_take : Pattern → Pattern → List ℕ → Bool
both_take p q line = takes p line && takes q line

-- the longer of two texts
abbrev pub longer : List ℕ → List ℕ → List ℕ
longer a b = if nat_lt (length a) (length b) then b else a

-- two rules of short texts take the longer text, as it is, with a quote behind it or with a digit
unfoldable pub can_meet : Pattern → Pattern → Bool
can_meet p q =
    let text = longer p.text q.text in
    (is_short p.text && is_short q.text)
    && (both_take p q (text ++ [])
    || (both_take p q (text ++ codes "\"") || both_take p q (text ++ codes "0")))

-- the rule has a line in common with a command line
abbrev pub can_take_command : Pattern → Bool
can_take_command p = can_meet p (pattern Prefix (codes "AT")) || can_meet p (pattern Prefix (codes "at"))

-- the rule has a line in common with one of the other sort
abbrev pub can_be_ambiguous : Rules → Rule → Bool
can_be_ambiguous rules (FinalRule form text) =
    list_any (λ r. can_meet (pattern form text) r.0) standard_urcs
    || list_any (λ u. can_meet (pattern form text) u.pattern) rules.urcs
can_be_ambiguous rules (UrcRule form text name) =
    list_any (λ r. can_meet (pattern form text) r.0) standard_finals
    || list_any (λ p. can_meet (pattern form text) p) rules.finals

-- why a text can't be that of a rule
abbrev pub text_refusal : List ℕ → Option DialectError
text_refusal text =
    if length text == 0 then Some NoText
    else if nat_lt 64 (length text) then Some TextTooLong
    else if list_any is_line_end text then Some LineEnd
    else None

-- why a rule of a good text is refused
abbrev pub rule_refusal : Rules → Rule → Option DialectError
rule_refusal rules rule =
    if not (is_well_named rule) then Some BadName
    else if can_take_command (pattern_of rule) then Some Command
    else if can_be_ambiguous rules rule then Some Ambiguous
    else None

-- why any rule of a text is refused
abbrev pub room_refusal : Rules → List ℕ → Option DialectError
room_refusal rules text = if nat_le 64 (count rules) then Some TooManyRules else text_refusal text

-- why a rule is refused
abbrev pub refusal_of : Rules → Rule → Option DialectError
refusal_of rules rule = option_or (room_refusal rules (text_of rule)) (rule_refusal rules rule)
