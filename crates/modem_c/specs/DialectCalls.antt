-- What calls from C do to a dialect.
use Rattle.std.specs.Prelude.{◌≡◌, ℕ, Option, None, Some}
use Rattle.std.specs.Option.{option_map_or}
use Rattle.at_text.specs.declared.dialect_error.DialectError.{DialectError}
use Rattle.at_text.specs.declared.rules.Form.{Form}
use Rattle.at_text.specs.declared.unsolicited.UrcKind.{UrcKind}
use Rattle.at_text.specs.Refusals.{HasNoReasonBelow, IsRefused}
use Rattle.at_text.specs.Rules.{Rule, Rules, with_rule}
use Rattle.modem_c.specs.Numbers.{dialect_refusal, form_number, kind_number}
use Rattle.modem_c.specs.declared.dialects.kept.CimbalotyDialect.{CimbalotyDialect}

-- the rules of the dialect that it holds, if any
abbrev pub rules_of : CimbalotyDialect → Option Rules
rules_of d = d.handle.held

abbrev pub HasSome : Option Rules → (Rules → Type 0) → Type 0
HasSome None p = ⊥
HasSome (Some rules) p = p rules

-- it holds a dialect, and this is true of its rules
abbrev pub Has : CimbalotyDialect → (Rules → Type 0) → Type 0
Has d p = HasSome (rules_of d) p

-- it held a dialect before, holds one now, and this is true of the rules of the two
abbrev pub Changes : (old new : CimbalotyDialect) → (Rules → Rules → Type 0) → Type 0
Changes old new p = Has old (λ r. Has new (p r))

-- A rule of the form of this number is added behind those that there are; nothing spoke against it.
pub record Adds (rule : Form → Rule) (form : ℕ) (old new : Rules) : Type 0 where
  pub of : Form
  pub is_it : form_number of ≡ form
  pub free : HasNoReasonBelow 8 old (rule of)
  pub added : new ≡ with_rule old (rule of)

-- A rule of the form of this number is refused, for the first reason that holds, which has this number.
pub record RefusesRule (rule : Form → Rule) (form number : ℕ) (rules : Rules) : Type 0 where
  pub of : Form
  pub is_it : form_number of ≡ form
  pub why : DialectError
  pub refused : IsRefused rules (rule of) why
  pub number_is : number ≡ dialect_refusal why

-- the number of a kind, and 0 of none
abbrev pub number_or_0 : Option UrcKind → ℕ
number_or_0 kind = option_map_or kind_number kind 0
