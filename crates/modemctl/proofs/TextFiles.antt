-- What a file that the words name gives.
use Rattle.std.specs.Prelude.{◌≡◌, ℕ, List, Option, Some, None, IfSome, refl}
use Rattle.std.proofs.Common.{subst}
use Rattle.at_text.specs.Rules.{Rules}
use Rattle.ctl_text.specs.DialectTexts.{AreLinesOf}
use Rattle.ctl_text.specs.Input.{input_lines}
use Rattle.ctl_run.specs.Dialects.{HasText}
use Rattle.modemctl.specs.Dialects.{GivesRules}

gives_rules : (file : Option (List ℕ)) (rules : Rules) → IfSome file (λ text. AreLinesOf (input_lines text) rules) → HasText rules → GivesRules file rules
gives_rules None rules made some = record { text = some.text; whole = tt; lines = some.lines }
gives_rules (Some text) rules made some = record { text = text; whole = refl; lines = made }

-- the rules that were read of a reader are those of the file
pub rules_of_file : (reader file : Option (List ℕ)) (rules : Rules) → reader ≡ file → IfSome reader (λ text. AreLinesOf (input_lines text) rules) → HasText rules → GivesRules file rules
rules_of_file reader file rules same made some = subst (λ (o : Option (List ℕ)). GivesRules o rules) same (gives_rules reader rules made some)
